-- The program's limits: its reading is the library's but for 10 above its bytes and 15 at a rule too many.
-- Assumes nothing.
use Prim.Native.Nat.{ℕ, ◌≤◌, ◌<◌}
use native.Mathlib.Omega.{arith}
use mathlib.Core.Path.{◌≡◌, ap, ◌∙◌}
use mathlib.Core.List.{List}
use mathlib.Core.Logic.{◌⊎◌, inl, inr, ⊎_elim}
use lib.ListN.{length}
use Rattle.laws.specs.Limits.{text_limit, rule_limit, program_text_limit, program_rule_limit}
use Rattle.table.specs.declared.Limits.TheVariants.{Program}
use Rattle.grammar.specs.Reading.{Parsed, accepted, refused, parse, parse_by}
use Rattle.grammar.specs.Within.{RulesAtMost, Beyond, Smaller}
use Rattle.grammar.proofs.Forward.{read_long}
use Rattle.grammar.proofs.Within.{smaller, smaller_same, smaller_many, smaller_either}
use Rattle.reader.specs.Tables.{FileRead}
use Rattle.rule_file.specs.Whole.{answered_whole, reading, program_reading}
use Rattle.listing.specs.Listing.{refusal, editor_number, program_editors, list_reading, listing}
use Rattle.listing.proofs.Callers.{listing_read}
use Rattle.promises.specs.Program.{OneEditor}
use Rattle.promises.specs.ProgramLimits.{refused_with, ProgramLimits}
use Rattle.promises.proofs.Program.{one_editor_i}

-- The two readings of a text.
two : (text : List ℕ) → Smaller program_text_limit program_rule_limit text (parse text) (parse_by Program text)
two text = smaller program_text_limit program_rule_limit text_limit rule_limit text (omega arith) (omega arith)

-- The same reading where the library's came to no rule too many; 15 where it came to more.
same : (text : List ℕ) (a : Parsed) → length text ≤ program_text_limit → parse text ≡ a → (Beyond program_rule_limit a → ⊥) → program_reading text ≡ reading text
unfolding reading
same text a h e n = ap answered_whole (smaller_same program_text_limit program_rule_limit text (parse text) (parse_by Program text) h (λ b. n (rw e at b)) (two text))

many : (text : List ℕ) (a : Parsed) → length text ≤ program_text_limit → parse text ≡ a → (RulesAtMost program_rule_limit a → ⊥) → program_reading text ≡ refused_with 15 program_rule_limit
unfolding answered_whole
many text a h e n = ap answered_whole (smaller_many program_text_limit program_rule_limit text (parse text) (parse_by Program text) h (λ b. n (rw e at b)) (two text))

either : (text : List ℕ) → length text ≤ program_text_limit → (program_reading text ≡ reading text) ⊎ (program_reading text ≡ refused_with 15 program_rule_limit)
unfolding reading answered_whole
either text h = ⊎_elim (λ e. inl (ap answered_whole e)) (λ e. inr (ap answered_whole e)) (smaller_either program_text_limit program_rule_limit text (parse text) (parse_by Program text) h (two text))

long : (text : List ℕ) → program_text_limit < length text → program_reading text ≡ refused_with 10 0
unfolding answered_whole
long text h = ap answered_whole (read_long program_text_limit program_rule_limit text h)

-- What the reading refuses is listed.
listed_refusal : (text card slip editor : List ℕ) (k n : ℕ) → OneEditor editor → program_reading text ≡ refused_with k n → listing text card slip editor ≡ refusal k n
unfolding list_reading
listed_refusal text card slip editor k n w e =
    listing_read text card slip editor (one_editor_i editor w)
    ∙ ap (λ (r : FileRead). list_reading text r.outcome r.table (program_editors (editor_number editor)) card slip) e

-- THE PROGRAM'S LIMITS.
pub program_limits : ProgramLimits
program_limits = record {
  ten = long;
  fifteen = λ text f h e l. many text (accepted f) h e (λ b. let z = b in omega (arith, z, l));
  later = λ text k n h e l. many text (refused k n) h e (λ b. let z = b in omega (arith, z, l));
  accepts = λ text f h e l. same text (accepted f) h e (λ b. let z = b in omega (arith, z, l));
  earlier = λ text k n h e l. same text (refused k n) h e (λ b. let z = b in omega (arith, z, l));
  at_most = λ text k h e. either text h;
  lists = listed_refusal;
}
