-- Each token but the end moves the position on within the text.
use Rattle.std.proofs.Common.{◌≡◌, ℕ, ◌<◌, ◌≤◌, length, arith, refl, rules, sym, subst}
use Rattle.text.specs.Next.{Lies}
use Rattle.text.specs.declared.Next.{Next}
use Rattle.text.specs.declared.Token as code
use Rattle.text.specs.declared.Token.TheVariants as v
use Rattle.text.proofs.Position.{next_lies}
use Rattle.token_cases.proofs.token_list.write_tokens.Goals as goal

-- A token that is not the end moves the position on, within the text.
moves : (size from : ℕ) (t : code.Token) (next : ℕ) → (t ≡ v.End → ⊥) → Lies size from t next → (from < next) × (next ≤ size)
moves size from v.End next k h = absurd (k refl)
moves size from (v.Word w) next k h = h
moves size from (v.Name n) next k h = (omega (arith, h.0, h.1, h.3), h.4)
moves size from v.Long next k h = h
moves size from v.Bad next k h = h

pub loop-reader-smaller : goal.loop-reader-smaller
loop-reader-smaller g c =
    let r = c.loop-reader.reader in
    let s = r.text.now in
    let t : c.peek-next.result.token ≡ v.End → ⊥ = search rules in
    let lies = subst (λ (n : Next). Lies (length s) r.at n.token n.at) (sym c.peek-next.ensures) (next_lies s r.at) in
    let m = moves (length s) r.at c.peek-next.result.token c.peek-next.result.at t lies in
    rw (c.advance-reader.ensures, sym c.peek-next.ensures) (omega (arith, m.0, m.1))
