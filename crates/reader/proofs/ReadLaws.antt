-- What the reading keeps from one statement to the next.
-- Assumes nothing.
use Prim.Native.Nat.{ℕ, ◌+◌, ◌*◌, ◌-◌, ◌≤◌, ◌<◌}
use native.Mathlib.Omega.{arith}
use mathlib.Core.Path.{◌≡◌, sym, ap, subst, ◌∙◌}
use mathlib.Core.List.{List, [], ◌∷◌, ◌++◌}
use lib.ListN.{length, take, drop, set, replicate, length-append, length-drop}
use lib.Seq.{take_all, sets}
use Rattle.text.specs.Tokens.{tokens, tokens_from}
use Rattle.model.specs.Rules as model
use Rattle.laws.specs.Limits.{text_limit, slot_limit, rule_limit, row}
use Rattle.grammar.specs.Files.{Slot}
use Rattle.grammar.specs.Reading.{read_tokens, read_lines}
use Rattle.table.specs.inner.Flat.{pair_places}
use Rattle.table.specs.Empty.{empty_table}
use Rattle.table.specs.Link.{rule_of}
use Rattle.table.specs.declared.Rule.{Rule}
use Rattle.table.specs.declared.Table.{Table}
use Rattle.steps.specs.inner.Places.{tokens_past}
use Rattle.steps.specs.inner.Spans.{SpanLies}
use Rattle.lines.specs.inner.Index.{Indexed, span_slot, slot_by}
use Rattle.grammar.specs.TableFor.{slot_for, rule_for, table_for}
use Rattle.lines.specs.inner.Lines.{ValuesLie}
use Rattle.lines.specs.inner.Remainder.{Remainder}
use Rattle.reader.specs.inner.Rules.{PlainRule}
use Rattle.reader.specs.inner.Statements.{read_on}
use Rattle.lines.proofs.Index.{indexed_none, indexed_more, slot_placed}
use Rattle.lines.proofs.LineLaws.{remainder_whole, remainder_next}
use Rattle.reader.proofs.TableLaws.{rule_kept, table_empty, table_slot, table_rule}

-- Slots and rules were read, no more than may be; the table and the spans hold them, and the remainder comes to what the whole text comes to.
pub record Halfway (most : ℕ) (text : List ℕ) (t : Table) (slotspans valuespans rest : List ℕ) (base : ℕ) : Type 0 where
  pub slots : List Slot
  pub rules : List model.Rule
  pub remainder : Remainder text rest base
  pub indexed : Indexed text slots slotspans valuespans
  pub few : length rules ≤ most
  pub tabled : t ≡ table_for (record { slots = slots; rules = rules })
  pub same : read_on most slots rules (tokens_past rest base 0) ≡ read_tokens most (tokens text)

pub halfway_start : (most : ℕ) (text : List ℕ) → length text ≤ text_limit → Halfway most text empty_table (replicate slot_limit 0) (replicate pair_places 0) text 0
unfolding read_on read_tokens tokens_past tokens
halfway_start most text h = record {
  slots = [];
  rules = [];
  remainder = remainder_whole text (omega arith);
  indexed = indexed_none text;
  few = omega arith;
  tabled = sym table_empty;
  same = ap (λ (k : ℕ). read_lines most k [] (tokens_from text 0 0)) (omega arith);
}

pub halfway_width : {most : ℕ} {text slotspans valuespans rest : List ℕ} {t : Table} {base : ℕ} (H : Halfway most text t slotspans valuespans rest base) → t.width ≡ length H.slots
unfolding table_for
halfway_width H = ap (λ (u : Table). u.width) H.tabled

pub halfway_count : {most : ℕ} {text slotspans valuespans rest : List ℕ} {t : Table} {base : ℕ} (H : Halfway most text t slotspans valuespans rest base) → t.count ≡ length H.rules
unfolding table_for
halfway_count H = ap (λ (u : Table). u.count) H.tabled

-- The tokens after a statement are those of the remainder after it.
handed_on : (rest : List ℕ) (base next : ℕ) → tokens_past rest base next ≡ tokens_past (take (length rest - next) (drop next rest)) (base + next) 0
unfolding tokens_past
handed_on rest base next =
    let h : length (drop next rest) ≤ length rest - next = simp length-drop (omega arith) in
    let z : base + next + 0 ≡ base + next = omega arith in
    rw (take_all (length rest - next) (drop next rest) h, z)

-- A slot more.
slot_table : (slots : List Slot) (rules : List model.Rule) (t : Table) (s : Slot) → t ≡ table_for (record { slots = slots; rules = rules }) → length slots < slot_limit
    → record { slots = set t.slots t.width (slot_for s); width = t.width + 1; rules = t.rules; count = t.count } ≡ table_for (record { slots = slots ++ s ∷ []; rules = rules })
unfolding table_for
slot_table slots rules t s e h = rw e (table_slot slots rules s h)

pub halfway_slot : (most : ℕ) (text slotspans valuespans rest spans : List ℕ) (t : Table) (base name count next : ℕ) (H : Halfway most text t slotspans valuespans rest base) → t.width < slot_limit → 0 < name → SpanLies text name → ValuesLie text spans count
    → read_on most H.slots H.rules (tokens_past rest base 0) ≡ read_on most (H.slots ++ span_slot text name spans count ∷ []) H.rules (tokens_past rest base next)
    → Halfway most text (record { slots = set t.slots t.width (slot_by name spans count); width = t.width + 1; rules = t.rules; count = t.count }) (set slotspans t.width name) (sets valuespans (t.width * row + 1) spans)
    (take (length rest - next) (drop next rest)) (base + next)
halfway_slot most text slotspans valuespans rest spans t base name count next H h z l L e =
    let w = halfway_width H in
    record {
      slots = H.slots ++ span_slot text name spans count ∷ [];
      rules = H.rules;
      remainder = remainder_next text rest base next H.remainder;
      indexed = indexed_more text slotspans valuespans spans H.slots t.width name count H.indexed w h z l L;
      few = H.few;
      tabled = rw (slot_placed text spans name count l L) (slot_table H.slots H.rules t (span_slot text name spans count) H.tabled (omega arith));
      same = ap (read_on most (H.slots ++ span_slot text name spans count ∷ []) H.rules) (sym (handed_on rest base next)) ∙ sym e ∙ H.same;
    }

-- A rule more.
rule_table : (slots : List Slot) (rules : List model.Rule) (t : Table) (r : model.Rule) → t ≡ table_for (record { slots = slots; rules = rules }) → length rules < rule_limit
    → record { slots = t.slots; width = t.width; rules = set t.rules t.count (rule_for r); count = t.count + 1 } ≡ table_for (record { slots = slots; rules = rules ++ r ∷ [] })
unfolding table_for
rule_table slots rules t r e h = rw e (table_rule slots rules r h)

pub halfway_rule : (most : ℕ) (text slotspans valuespans rest : List ℕ) (t : Table) (base next : ℕ) (r : Rule) (H : Halfway most text t slotspans valuespans rest base) → t.count < most → most ≤ rule_limit → PlainRule r
    → read_on most H.slots H.rules (tokens_past rest base 0) ≡ read_on most H.slots (H.rules ++ rule_of r ∷ []) (tokens_past rest base next)
    → Halfway most text (record { slots = t.slots; width = t.width; rules = set t.rules t.count r; count = t.count + 1 }) slotspans valuespans (take (length rest - next) (drop next rest)) (base + next)
halfway_rule most text slotspans valuespans rest t base next r H h l p e =
    let c = halfway_count H in
    record {
      slots = H.slots;
      rules = H.rules ++ rule_of r ∷ [];
      remainder = remainder_next text rest base next H.remainder;
      indexed = H.indexed;
      few = rw (length-append H.rules (rule_of r ∷ [])) (omega arith);
      tabled = subst (λ (x : Rule). record { slots = t.slots; width = t.width; rules = set t.rules t.count x; count = t.count + 1 } ≡ table_for (record { slots = H.slots; rules = H.rules ++ rule_of r ∷ [] })) (rule_kept r p)
          (rule_table H.slots H.rules t (rule_of r) H.tabled (omega arith));
      same = ap (read_on most H.slots (H.rules ++ rule_of r ∷ [])) (sym (handed_on rest base next)) ∙ sym e ∙ H.same;
    }
