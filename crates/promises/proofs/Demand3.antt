-- Demand 3, as document 01, 'Agreement', words it: of the reading and the response, which the code's contracts equal.
-- Assumes nothing.
use Prim.Native.Nat.{ℕ}
use mathlib.Core.Path.{◌≡◌, refl, sym, subst, ◌∙◌}
use mathlib.Core.List.{List}
use mathlib.Core.Logic.{inl}
use lib.ListN.{length}
use Rattle.model.specs.Orders.{changes}
use Rattle.model.specs.Strata.{weak}
use Rattle.model.specs.Response.{response}
use Rattle.table.specs.declared.Way.TheVariants.{Strata}
use Rattle.grammar.specs.Files.{File, slot_counts}
use Rattle.grammar.specs.Meaning.{IsFile}
use Rattle.reader.specs.Tables.{Accepted}
use Rattle.rule_file.specs.Whole.{reading}
use Rattle.grammar.proofs.Declared.{DeclaredFile, file_declared}
use Rattle.rule_file.proofs.Answers.{reading_accepted_iff}
use Rattle.laws.specs.Answers.{OrRefused, taken, refused}
use Rattle.cards.proofs.Having.{card_tested, slip_tested}
use Rattle.tally.specs.Editors.{Editors}
use Rattle.response.specs.Ending.{Answer, answer_by_firing}
use Rattle.response.specs.Respond.{Rooms, answer_by}
use Rattle.promises.specs.Agreement.{responds, Shows, LowestConflict, Agreed, Demand3}
use Rattle.promises.specs.Selections.{HandedIn}
use Rattle.promises.proofs.Ends.{Final, ends_in_order, file_response, file_no_circle}
use Rattle.promises.proofs.Conflicts.{unless_conflict_taken, unless_conflict_40}
use Rattle.promises.proofs.Orders.{agreed, shows_order, lowest_conflict}
use Rattle.promises.proofs.Rearranged.{unmoved}

-- For every text that is accepted and the file that it is.
pub demand_3 : (text : List ℕ) (f : File) → IsFile text f → (reading text).outcome ≡ Accepted → Demand3 text f
unfolding answer_by answer_by_firing
demand_3 text f h o = record {
  where_answered = λ y card slip rooms a e. (let d = ends y card slip rooms (taken a) tt e in shows_answer y card slip rooms a d.0 d.1);
  where_40 = λ y card slip rooms s e. (let d = ends y card slip rooms (refused 40 s) (inl refl) e in conflicting y card slip rooms s d.0 d.1);
  where_rearranged = unmoved text f h o;
}
  where
    declared : DeclaredFile f
    declared = file_declared text f h

    ends : (y : Editors) (card slip : List ℕ) (rooms : Rooms) (w : OrRefused Answer) → Final w → responds text y card slip rooms ≡ w
        → (d : HandedIn f y card slip rooms) × (answer_by Strata (slot_counts f.slots) f.rules d.S d.I ≡ w)
    ends y card slip rooms w l e = ends_in_order f y card slip rooms Strata w l (sym (file_response Strata text f h o y card slip rooms) ∙ e)

    shows_answer : (y : Editors) (card slip : List ℕ) (rooms : Rooms) (a : Answer) (d : HandedIn f y card slip rooms) → answer_by Strata (slot_counts f.slots) f.rules d.S d.I ≡ taken a
        → Agreed f card slip (λ S I ns. Shows f S I a ns)
    shows_answer y card slip rooms a d e =
        let c = card_tested (slot_counts f.slots) card d.S d.card_is in
        let i = slip_tested (slot_counts f.slots) slip d.I d.slip_is in
        let z = file_no_circle text f h o in
        let ns = response weak f.rules d.S d.I in
        let w = unless_conflict_taken (length (slot_counts f.slots)) (length f.rules) d.S (changes f.rules d.I ns) ns a e in
        agreed f declared z d.S d.I c i card slip d.card_is d.slip_is (λ S I ns. Shows f S I a ns)
        (λ ns A. subst (λ (x : Answer). Shows f d.S d.I x ns) w.1 (shows_order f declared z d.S d.I c i w.0 ns A))

    conflicting : (y : Editors) (card slip : List ℕ) (rooms : Rooms) (s : ℕ) (d : HandedIn f y card slip rooms) → answer_by Strata (slot_counts f.slots) f.rules d.S d.I ≡ refused 40 s
        → Agreed f card slip (λ S I ns. LowestConflict (changes f.rules I ns) s)
    conflicting y card slip rooms s d e =
        let c = card_tested (slot_counts f.slots) card d.S d.card_is in
        let i = slip_tested (slot_counts f.slots) slip d.I d.slip_is in
        let z = file_no_circle text f h o in
        let ns = response weak f.rules d.S d.I in
        let w = unless_conflict_40 (length (slot_counts f.slots)) (length f.rules) d.S (changes f.rules d.I ns) ns s e in
        agreed f declared z d.S d.I c i card slip d.card_is d.slip_is (λ S I ns. LowestConflict (changes f.rules I ns) s)
        (λ ns A. subst (λ (r : ℕ). LowestConflict (changes f.rules d.I ns) r) w.1 (lowest_conflict f declared z d.S d.I c i w.0 ns A))

-- Every accepted text is such a file.
pub demand_3_accepted : (text : List ℕ) → (reading text).outcome ≡ Accepted → (f : File) × IsFile text f × Demand3 text f
demand_3_accepted text o = let w = (reading_accepted_iff text).1 o in (w.0, w.1, demand_3 text w.0 w.1 o)
