-- The labels after one edge: `kept_other`, `kept_met` or `relaxed`, at what the code reads.
use Rattle.std.proofs.Common.{arith, ◌≡◌, ◌≢◌, ◌∙◌, ap, sym, ℕ, ◌+◌, ◌<◌, ◌+ℤ◌, ◌<ℤ◌, length, refl, All, List, slice_index_or, FitsSigned, w64, ℤ, to_z, of_z}
use Rattle.std.proofs.lemmas.Int.{ints, to_z-of_z}
use Rattle.std.proofs.lemmas.List.{get_or_read}
use Rattle.bed_diff.specs.declared.constraint.Edge3.{Edge3}
use Rattle.bed_diff.specs.declared.rounds.Label.{Label}
use Rattle.bed_diff.specs.Edges.{edge_at, IsWithin}
use Rattle.bed_diff.specs.Rounds.{label_at, value_of, round_of, Progress}
use Rattle.bed_diff.proofs.StepLemmas.{other_done, relaxed, relaxed_keeps, relaxed_done, small_fits, value_low, sum_is, le_from, lt_read}
use Rattle.bed_diff.proofs.rounds.relax.Goals as goal

-- what the code reads is the label of a node, and its value is small
record IsRead (ls : List Label) (x : ℕ) (k : ℕ) (l : Label) : Type 0 where
  is : label_at ls x ≡ l
  fits : FitsSigned w64 l.value

read : (es : List Edge3) (k i : ℕ) (ls : List Label) (x : ℕ) (l : Label) → k < 65536 → x < length ls
    → l ≡ slice_index_or ls x l → Progress es k ls → IsRead ls x k l
read es k i ls x l few h e p =
    let is : label_at ls x ≡ l = sym (get_or_read ls x l h e _) in
    let r = p.rounds x h in
    let low = p.low x h in
    let high = p.high x h in
    let v : value_of ls x ≡ l.value = ap (λ (m : Label). m.value) is in
    let low' = value_low (value_of ls x) (round_of ls x) (omega arith) low in
    record { is = is; fits = small_fits l.value (omega (arith, ints)) (omega (arith, ints)) }

pub returns-then-to-done-clause-done : goal.returns-then-to-done-clause-done
returns-then-to-done-clause-done c =
    let w = c.requires.edges c.args.place _ c.requires.place in
    let r = read c.args.edges.now c.args.done c.args.place c.args.labels.now.items (edge_at c.args.edges.now c.args.place).to c.index-to.result.now c.requires.rounds w.to_in c.index-to.ensures c.requires.progress in
    let at = ap (λ (m : Label). m.round) r.is in
    let ne : round_of c.args.labels.now.items (edge_at c.args.edges.now c.args.place).to ≢ c.args.done = λ h. c.if-to-done.true (sym at ∙ h) in
    other_done c.args.edges.now c.args.done c.args.place c.args.labels.now.items c.requires.place ne c.requires.progress

-- the sum fits
record IsSum (a w s : ℤ) : Type 0 where
  fits : FitsSigned w64 (to_z w64 (of_z w64 a) +ℤ to_z w64 (of_z w64 w))
  is : to_z w64 (of_z w64 (to_z w64 (of_z w64 a) +ℤ to_z w64 (of_z w64 w))) ≡ s

summed : (es : List Edge3) (k i : ℕ) (ls : List Label) (l : Label) → k < 65536 → i < length es
    → All (IsWithin (length ls) 8589934593) es
    → l ≡ slice_index_or ls (edge_at es i).to l → Progress es k ls
    → IsSum l.value (edge_at es i).weight (value_of ls (edge_at es i).to +ℤ (edge_at es i).weight)
summed es k i ls l few h all e p =
    let x = (edge_at es i).to in
    let w = all i _ h in
    let is : label_at ls x ≡ l = sym (get_or_read ls x l w.to_in e _) in
    let r = p.rounds x w.to_in in
    let low = p.low x w.to_in in
    let high = p.high x w.to_in in
    let v : value_of ls x ≡ l.value = ap (λ (m : Label). m.value) is in
    let low' = value_low (value_of ls x) (round_of ls x) (omega arith) low in
    let wl = w.low in
    let wh = w.high in
    let fa : FitsSigned w64 l.value = small_fits l.value (omega (arith, ints)) (omega (arith, ints)) in
    let fw : FitsSigned w64 (edge_at es i).weight = small_fits (edge_at es i).weight (omega (arith, ints)) (omega (arith, ints)) in
    let fs : FitsSigned w64 (l.value +ℤ (edge_at es i).weight) = small_fits (l.value +ℤ (edge_at es i).weight) (omega (arith, ints)) (omega (arith, ints)) in
    record {
      fits = rw (to_z-of_z w64 l.value fa, to_z-of_z w64 (edge_at es i).weight fw) fs;
      is = sum_is l.value (edge_at es i).weight fa fw fs ∙ ap (λ (z : ℤ). z +ℤ (edge_at es i).weight) (sym v);
    }

pub overflow_add-value : goal.overflow_add-value
overflow_add-value c =
    (summed c.args.edges.now c.args.done c.args.place c.args.labels.now.items c.index-to.result.now c.requires.rounds c.requires.place c.requires.edges c.index-to.ensures c.requires.progress).fits

pub returns-then-index-value-clause-done : goal.returns-then-index-value-clause-done
returns-then-index-value-clause-done c =
    let es = c.args.edges.now in
    let ls = c.args.labels.now.items in
    let w = c.requires.edges c.args.place _ c.requires.place in
    let s = summed es c.args.done c.args.place ls c.index-to.result.now c.requires.rounds c.requires.place c.requires.edges c.index-to.ensures c.requires.progress in
    let r = read es c.args.done c.args.place ls (edge_at es c.args.place).from c.index.result.now c.requires.rounds w.from_in c.index.ensures c.requires.progress in
    let v = ap (λ (m : Label). m.value) r.is in
    let le = le_from _ _ (rw (s.is, to_z-of_z w64 c.index.result.now.value r.fits, sym v) at c.if-index-value.true) in
    λ h. le

module _ (c : goal.After-labels-1) where
  abbrev es : List Edge3
  es = c.args.edges.now

  abbrev ls : List Label
  ls = c.args.labels.now.items

  abbrev written : Label
  written = record { value = value_of ls (edge_at es c.args.place).to +ℤ (edge_at es c.args.place).weight; round = c.args.done + 1; edge = c.args.place }

  record IsReady : Type 0 where
    is : to_z w64 (of_z w64 (to_z w64 (of_z w64 c.index-to.result.now.value) +ℤ to_z w64 (of_z w64 (edge_at es c.args.place).weight))) ≡ (value_of ls (edge_at es c.args.place).to +ℤ (edge_at es c.args.place).weight)
    old : round_of ls (edge_at es c.args.place).to ≡ c.args.done
    within : IsWithin (length ls) 8589934593 (edge_at es c.args.place)
    fall : (value_of ls (edge_at es c.args.place).to +ℤ (edge_at es c.args.place).weight) <ℤ value_of ls (edge_at es c.args.place).from

  ready : IsReady
  ready =
      let w = c.requires.edges c.args.place _ c.requires.place in
      let s = summed es c.args.done c.args.place ls c.index-to.result.now c.requires.rounds c.requires.place c.requires.edges c.index-to.ensures c.requires.progress in
      let r = read es c.args.done c.args.place ls (edge_at es c.args.place).from c.index.result.now c.requires.rounds w.from_in c.index.ensures c.requires.progress in
      let t = read es c.args.done c.args.place ls (edge_at es c.args.place).to c.index-to.result.now c.requires.rounds w.to_in c.index-to.ensures c.requires.progress in
      let v = ap (λ (m : Label). m.value) r.is in
      record {
        is = s.is;
        old = ap (λ (m : Label). m.round) t.is ∙ c.if-to-done.false;
        within = w;
        fall = lt_read _ c.index.result.now.value _ _ s.is r.fits v c.if-index-value.false;
      }

pub returns-clause-progress : goal.returns-clause-progress
returns-clause-progress c = let r = ready c in
    rw r.is (relaxed (es c) c.args.done c.args.place (ls c) (written c) c.requires.place r.within c.requires.progress r.old refl refl refl r.fall)

pub returns-clause-keeps : goal.returns-clause-keeps
returns-clause-keeps c = let r = ready c in
    rw r.is (relaxed_keeps (es c) c.args.done c.args.place (ls c) (written c) c.requires.place r.within c.requires.progress r.old refl refl refl r.fall)

pub returns-clause-done : goal.returns-clause-done
returns-clause-done c = let r = ready c in
    rw r.is (relaxed_done (es c) c.args.done c.args.place (ls c) (written c) c.requires.place r.within c.requires.progress r.old refl refl refl r.fall)
