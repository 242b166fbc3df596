-- Two list segments in a row are joined into one.
use Rattle.std.proofs.Common.{◌≡◌, ℕ, ◌+◌, true, IsTrue, Option, Some, None, List, [], ◌∷◌, map, codes, inl, refl, sym, ◌∙◌, ap, subst, subst₂}
use Rattle.bed_lang.specs.Numbers.{wrap}
use Rattle.bed_machine.specs.Memory.{Memory}
use Rattle.bed_machine.proofs.WordLaws.{some_same}
use Rattle.bed_lang.specs.declared.word.Name.{Name}
use Rattle.bed_lang.specs.declared.word.Var.TheVariants as var
use Rattle.bed_lang.specs.declared.word.Word.{Number}
use Rattle.bed_lang.specs.declared.word.Seq.{Seq, Var as SeqVar, fold-roll-Seq}
use Rattle.bed_lang.specs.declared.word.Seq.TheOpen.{Seq-F}
use Rattle.bed_lang.specs.declared.word.Seq.TheVariants.{rolls-Var}
use Rattle.bed_lang.specs.declared.logic.Arg.{Arg}
use Rattle.bed_lang.specs.declared.logic.Arg.TheVariants as arg
use Rattle.bed_lang.specs.declared.logic.Atom.{Atom}
use Rattle.bed_lang.specs.declared.logic.Atom.TheVariants as atom
use Rattle.bed_lang.specs.declared.module.Predicate.{Predicate}
use Rattle.bed_lang.specs.declared.condition.Decls.{Decls}
use Rattle.bed_lang.specs.Same.{same_predicate}
use Rattle.bed_lang.specs.Values.{Values, value, list_value}
use Rattle.bed_lang.specs.Instances.{Instance, values_with, seq_with, seq_with_step}
use Rattle.bed_lang.specs.Prelude.{lseg}
use Rattle.bed_lang.proofs.ValueLaws.{value-small, list_value-Var, list_value-App}
use Rattle.bed_lang.specs.Lookups.{predicate_named}
use Rattle.bed_sat.specs.Assertions.{Meaning, IsTrueAtom, World, meaning}
use Rattle.bed_sat.proofs.FrameLaws.{bytes_eq_is}
use Rattle.bed_sat.proofs.InstanceLaws.{list_value-with}
use Rattle.bed_deriv.specs.declared.derivation.DArg.{DArg}
use Rattle.bed_deriv.specs.declared.state.SymState.{SymState}
use Rattle.bed_deriv.specs.HeapRules.{both_taken, Segment, segment_args, segment, is_lseg, has_segments, joined_segment, append_rule}
use Rattle.bed_check_pure.specs.States.{AreTrueFacts}
use Rattle.bed_check_pure.proofs.SameLaws.{not_equal}
use Rattle.bed_check_pure.proofs.RuleLaws.{counted}
use Rattle.bed_check_heap.specs.Laws.{AppendKeeps}
use Rattle.bed_check_heap.proofs.TakeLaws.{both_facts, put_atom, take_both, atoms_more}
use Rattle.bed_check_heap.proofs.FreshLaws.{agree_self}
use Rattle.bed_check_heap.proofs.MatchLaws.{if_some}
use Rattle.bed_check_heap.proofs.SegmentLaws.{segment_values, deeper, segments_append}
use Rattle.bed_check_heap.proofs.KeepLaws.{Every, Keeps, kept}

-- the elements of a sequence's value are words
elements_small : (labels : List ℕ → ℕ) (ν : Values) (s : Seq) → map wrap (list_value labels ν s) ≡ list_value labels ν s
elements_small labels ν s =
    let σ : Instance = record { words = λ x. Number 0; seqs = λ x. s } in
    let is : seq_with σ (SeqVar var.Hole) ≡ s = ap (seq_with σ) (sym (rolls-Var var.Hole)) ∙ fold-roll-Seq Seq (seq_with_step σ) (Seq-F.Var var.Hole) in
    sym (list_value-Var labels (values_with σ labels ν) var.Hole) ∙ sym (list_value-with (λ a. None) labels σ ν (SeqVar var.Hole)) ∙ ap (list_value labels ν) is

-- ---- segments among atoms

module _ (w : World) (ν : Values) (M : Meaning) (h : Memory) where
  -- an atom that is a segment, by its values
  abbrev IsSegment : Segment → Type 0
  IsSegment z = M (codes "lseg") (segment_values (value w.labels ν z.start) (value w.labels ν z.end) (list_value w.labels ν z.elements)) h

  args_are : (x : Name) (args : List Arg) (z : Segment) → x.bytes ≡ codes "lseg" → segment_args x args ≡ Some z
      → IsTrueAtom w.codes w.labels M ν (atom.Pred x args) h → (z.name.bytes ≡ codes "lseg") × IsSegment z
  args_are x (arg.Word i a ∷ arg.Word j b ∷ arg.Seq k s ∷ []) z named e is =
      subst (λ (y : Segment). (y.name.bytes ≡ codes "lseg") × IsSegment y) (some_same e)
      (named, subst (λ n. M n (segment_values (value w.labels ν a) (value w.labels ν b) (list_value w.labels ν s)) h) named is)
  args_are x _ z named e is = absurd cc

  segment_is : (x : Atom) (z : Segment) → segment x ≡ Some z → IsTrueAtom w.codes w.labels M ν x h → (z.name.bytes ≡ codes "lseg") × IsSegment z
  segment_is (atom.Pred x args) z e is =
      let k = if_some _ (segment_args x args) z e in args_are x args z (bytes_eq_is x.bytes (codes "lseg") k.0) k.1 is
  segment_is (atom.Cell a v) z e is = absurd cc
  segment_is (atom.Byte a v) z e is = absurd cc
  segment_is (atom.Block a n) z e is = absurd cc

the_segments : (d : Decls) → has_segments d ≡ true → (p : Predicate) × (predicate_named d (codes "lseg") ≡ Some p) × IsTrue (same_predicate p lseg)
the_segments d e = by (predicate_named d (codes "lseg")) refl e
  where
    by : (o : Option Predicate) → predicate_named d (codes "lseg") ≡ o → is_lseg o ≡ true
        → (p : Predicate) × (predicate_named d (codes "lseg") ≡ Some p) × IsTrue (same_predicate p lseg)
    by None q e = absurd cc
    by (Some p) q e = (p, q, e)

pub append_keeps : (w : World) (ν : Values) (h : Memory) (s : SymState) (args : List DArg) (n : ℕ) → Every (Keeps w ν h s n) (append_rule w.decls s args n)
append_keeps w ν h s args n c i first a at_i j second b at_j apart segments x is_x y is_y = (
  counted args 2 n 2 c,
  λ known holds goals.
      let k = holds.depth in
      let P = meaning w k in
      let Q = meaning w (k + k) in
      let V = value w.labels ν in
      let t = take_both w ν P s i j a b h (not_equal i j apart) at_i at_j holds.atoms in
      let (p, declared, is_prelude) = the_segments w.decls segments in
      let one = segment_is w ν P t.first a x is_x t.is_first in
      let two = segment_is w ν P t.second b y is_y t.is_second in
      let both = segments_append w p declared is_prelude k k (V x.start) (V x.end) (V y.end) _ _ t.both t.first t.second
      (value-small w.labels ν x.start) (value-small w.labels ν x.end) (value-small w.labels ν y.end) (elements_small w.labels ν y.elements) t.parts one.1
      (subst (λ v. P (codes "lseg") (segment_values v (V y.end) (list_value w.labels ν y.elements)) t.second) (sym goals.0) two.1) in
      inl (
        ν,
        agree_self s.next ν,
        record {
          facts = subst (AreTrueFacts w ν) (sym (both_facts s i j)) holds.facts;
          depth = k + k;
          atoms = put_atom w ν Q (both_taken s i j).atoms (joined_segment x y) h t.rest t.both t.joins
              (atoms_more w ν P Q (deeper w k k) (both_taken s i j).atoms t.rest t.are)
              (subst₂ (λ m zs. Q m (segment_values (V x.start) (V y.end) zs) t.both) (sym one.0) (sym (list_value-App w.labels ν x.elements y.elements)) both);
        },
      ),
)

pub append_is_kept : AppendKeeps
append_is_kept w ν h s args n m e = (kept w ν h s n (append_rule w.decls s args n) (append_keeps w ν h s args n) m e).1
