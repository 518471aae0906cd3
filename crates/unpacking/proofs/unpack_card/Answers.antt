-- `unpacking::unpack_card` meets its contract.
use mathlib.Core.Path.{◌≡◌, refl, sym, ap, ◌∙◌}
use mathlib.Core.Bool.{Bool, true, false}
use Rattle.soundness.specs.Sound.{sound}
use Rattle.cards.specs.Cards.{unpacked_card, card_read, card_read_of}
use Rattle.cards.proofs.Answered.{unsound, sound_card_read}
use Rattle.unpacking.proofs.unpack_card.Goals as goal

pub returns : goal.returns
unfolding unpacked_card card_read
returns c = go (sound c.args.t) refl
  where
    go : (b : Bool) → sound c.args.t ≡ b → card_read_of c.unpack_form.result ≡ card_read (unpacked_card c.args.t c.args.bytes.now)
    go true e = c.unpack_form.ensures.1 e ∙ ap card_read (sym (sound_card_read c.args.t e c.args.bytes.now))
    go false e = rw (c.unpack_form.ensures.0 e, unsound c.args.t _ e)
