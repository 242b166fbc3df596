-- A match whose goals are true: its terms are true of the parts of the atoms that are chosen, and the others of the rest.
use Rattle.std.proofs.Common.{◌≡◌, ℕ, ◌-◌, ◌≤◌, Bool, true, false, nat_le, if◌then◌else◌, List, [], ◌∷◌, ◌++◌, length, drop, Option, Some, None, refl, sym, ◌∙◌, ap, ap₂, subst, subst₂, arith, length-append}
use Rattle.std.proofs.lemmas.Bool.{and_parts, leb-true}
use Rattle.bed_machine.specs.Memory.{Memory, empty}
use Rattle.bed_machine.proofs.WordLaws.{some_same}
use Rattle.bed_lang.specs.declared.logic.Arg.{Arg}
use Rattle.bed_lang.specs.declared.logic.Arg.TheVariants as arg
use Rattle.bed_lang.specs.declared.logic.Pure.{Pure}
use Rattle.bed_lang.specs.declared.logic.Atom.{Atom}
use Rattle.bed_lang.specs.declared.logic.Atom.TheVariants as atom
use Rattle.bed_lang.specs.declared.logic.Term.{Term}
use Rattle.bed_lang.specs.declared.logic.Term.TheVariants as term
use Rattle.bed_lang.specs.Same.{same_name}
use Rattle.bed_lang.specs.Values.{Values}
use Rattle.bed_lang.specs.Instances.{Instance, values_with, terms_with}
use Rattle.bed_sat.specs.Parts.{Joins}
use Rattle.bed_sat.specs.Cells.{IsCell, IsByte, IsBlock}
use Rattle.bed_sat.specs.Assertions.{WordValue, ListValue, Meaning, arg_value, arg_values, IsTrueAtom, AreTrueTerms, World, meaning}
use Rattle.bed_sat.proofs.PartLaws.{joins_comm, to_empty}
use Rattle.bed_sat.proofs.FrameLaws.{bytes_eq_is}
use Rattle.bed_sat.proofs.InstanceLaws.{terms_true_with}
use Rattle.bed_deriv.specs.declared.derivation.DArg.{DArg}
use Rattle.bed_deriv.specs.declared.state.SymState.{SymState}
use Rattle.bed_deriv.specs.Matches.{atom_goals, count_of_goals, count_of_atoms, all_different, atoms_left, arg_goal, goal_before, arg_equations, atom_equations, goals_before, match_goals}
use Rattle.bed_check_pure.specs.States.{AreTrueFacts, AreTrueAtoms}
use Rattle.bed_check_heap.specs.Sound.{atoms_numbered}
use Rattle.bed_deriv.specs.Instances.{Matched, match_terms}
use Rattle.bed_check_heap.proofs.TakeLaws.{atoms_chosen, AreNumbered, chosen_numbered, numbers_are_left, take_chosen}
use Rattle.bed_check_heap.proofs.KeepLaws.{Every}

-- ---- the two parts of goals

goal_parts : (p : Option Pure) (more : Option (List Pure)) (gs : List Pure) → goal_before p more ≡ Some gs
    → (q : Pure) × (qs : List Pure) × (p ≡ Some q) × (more ≡ Some qs) × (q ∷ qs ≡ gs)
goal_parts (Some p) (Some ps) gs e = (p, ps, refl, refl, some_same e)
goal_parts None more gs e = absurd cc
goal_parts (Some p) None gs e = absurd cc

goals_parts : (first more : Option (List Pure)) (gs : List Pure) → goals_before first more ≡ Some gs
    → (ps qs : List Pure) × (first ≡ Some ps) × (more ≡ Some qs) × (ps ++ qs ≡ gs)
goals_parts (Some ps) (Some qs) gs e = (ps, qs, refl, refl, some_same e)
goals_parts None more gs e = absurd cc
goals_parts (Some ps) None gs e = absurd cc

pub if_some : {A : Type 0} (b : Bool) (o : Option A) (x : A) → (if b then o else None) ≡ Some x → (b ≡ true) × (o ≡ Some x)
if_some true o x e = (refl, e)
if_some false o x e = absurd cc

-- ---- how many there are

count_of_args : (xs ys : List Arg) (gs : List Pure) → arg_equations xs ys ≡ Some gs → length gs ≡ length xs
count_of_args [] [] gs e = ap length (sym (some_same e))
count_of_args [] (y ∷ ys) gs e = absurd cc
count_of_args (x ∷ xs) [] gs e = absurd cc
count_of_args (x ∷ xs) (y ∷ ys) gs e =
    let (q, qs, one, more, all) = goal_parts (arg_goal x y) (arg_equations xs ys) gs e in
    let n = count_of_args xs ys qs more in
    sym (ap length all) ∙ omega arith

count_of_atom : (x y : Atom) (gs : List Pure) → atom_equations x y ≡ Some gs → length gs ≡ atom_goals x
count_of_atom (atom.Cell a v) (atom.Cell b u) gs e = ap length (sym (some_same e))
count_of_atom (atom.Byte a v) (atom.Byte b u) gs e = ap length (sym (some_same e))
count_of_atom (atom.Block a n) (atom.Block b m) gs e = ap length (sym (some_same e))
count_of_atom (atom.Pred x xs) (atom.Pred y ys) gs e = count_of_args xs ys gs (if_some (same_name x y) (arg_equations xs ys) gs e).1
count_of_atom (atom.Cell a v) _ gs e = absurd cc
count_of_atom (atom.Byte a v) _ gs e = absurd cc
count_of_atom (atom.Block a n) _ gs e = absurd cc
count_of_atom (atom.Pred x xs) _ gs e = absurd cc

-- a match leaves as many goals as its terms have
pub count_of_match : (ts : List Term) (cs : List (ℕ × Atom)) (gs : List Pure) → match_goals ts cs ≡ Some gs → length gs ≡ count_of_goals ts
count_of_match [] [] gs e = ap length (sym (some_same e))
count_of_match [] (c ∷ cs) gs e = absurd cc
count_of_match (term.Emp ∷ ts) cs gs e = count_of_match ts cs gs e ∙ omega arith
count_of_match (term.Pure p ∷ ts) cs gs e =
    let (q, qs, one, more, all) = goal_parts (Some p) (match_goals ts cs) gs e in
    let n = count_of_match ts cs qs more in
    sym (ap length all) ∙ omega arith
count_of_match (term.Atom x ∷ ts) [] gs e = absurd cc
count_of_match (term.Atom x ∷ ts) (c ∷ cs) gs e =
    let (ps, qs, one, more, all) = goals_parts (atom_equations x c.1) (match_goals ts cs) gs e in
    let n = count_of_match ts cs qs more in
    let m = count_of_atom x c.1 ps one in
    sym (ap length all) ∙ length-append ps qs ∙ omega arith

-- ---- where the goals are true

module _ (w : World) (ν : Values) where
  pub facts_parts : (ps qs : List Pure) → AreTrueFacts w ν (ps ++ qs) → AreTrueFacts w ν ps × AreTrueFacts w ν qs
  facts_parts [] qs t = (tt, t)
  facts_parts (p ∷ ps) qs t = let k = facts_parts ps qs t.1 in ((t.0, k.0), k.1)

  arg_equal : (x y : Arg) (p : Pure) → arg_goal x y ≡ Some p → AreTrueFacts w ν (p ∷ []) → arg_value w.codes w.labels ν x ≡ arg_value w.codes w.labels ν y
  arg_equal (arg.Word at a) (arg.Word place b) p e t = let u = subst (λ q. AreTrueFacts w ν (q ∷ [])) (sym (some_same e)) t in ap WordValue u.0
  arg_equal (arg.Seq at a) (arg.Seq place b) p e t = let u = subst (λ q. AreTrueFacts w ν (q ∷ [])) (sym (some_same e)) t in ap ListValue u.0
  arg_equal (arg.Word at a) _ p e t = absurd cc
  arg_equal (arg.Seq at a) _ p e t = absurd cc
  arg_equal (arg.Bare name) _ p e t = absurd cc

  args_equal : (xs ys : List Arg) (gs : List Pure) → arg_equations xs ys ≡ Some gs → AreTrueFacts w ν gs → arg_values w.codes w.labels ν xs ≡ arg_values w.codes w.labels ν ys
  args_equal [] [] gs e t = refl
  args_equal [] (y ∷ ys) gs e t = absurd cc
  args_equal (x ∷ xs) [] gs e t = absurd cc
  args_equal (x ∷ xs) (y ∷ ys) gs e t =
      let (q, qs, one, more, all) = goal_parts (arg_goal x y) (arg_equations xs ys) gs e in
      let u = subst (AreTrueFacts w ν) (sym all) t in
      ap₂ (λ v vs. v ∷ vs) (arg_equal x y q one (u.0, tt)) (args_equal xs ys qs more u.1)

  -- an atom is true where the one that is chosen for it is
  atom_matches : (P : Meaning) (x y : Atom) (gs : List Pure) (h : Memory) → atom_equations x y ≡ Some gs → AreTrueFacts w ν gs
      → IsTrueAtom w.codes w.labels P ν y h → IsTrueAtom w.codes w.labels P ν x h
  atom_matches P (atom.Cell a v) (atom.Cell b u) gs h e t is =
      let k = subst (AreTrueFacts w ν) (sym (some_same e)) t in subst₂ (λ p c. IsCell p c h) (sym k.0) (sym k.1.0) is
  atom_matches P (atom.Byte a v) (atom.Byte b u) gs h e t is =
      let k = subst (AreTrueFacts w ν) (sym (some_same e)) t in subst₂ (λ p c. IsByte p c h) (sym k.0) (sym k.1.0) is
  atom_matches P (atom.Block a n) (atom.Block b m) gs h e t is =
      let k = subst (AreTrueFacts w ν) (sym (some_same e)) t in subst₂ (λ p c. IsBlock p c h) (sym k.0) (sym k.1.0) is
  atom_matches P (atom.Pred x xs) (atom.Pred y ys) gs h e t is =
      let k = if_some (same_name x y) (arg_equations xs ys) gs e in
      subst₂ (λ n vs. P n vs h) (sym (bytes_eq_is x.bytes y.bytes k.0)) (sym (args_equal xs ys gs k.1 t)) is
  atom_matches P (atom.Cell a v) _ gs h e t is = absurd cc
  atom_matches P (atom.Byte a v) _ gs h e t is = absurd cc
  atom_matches P (atom.Block a n) _ gs h e t is = absurd cc
  atom_matches P (atom.Pred x xs) _ gs h e t is = absurd cc

  -- terms are true where the atoms that are chosen for theirs are
  pub terms_match : (P : Meaning) (ts : List Term) (cs : List (ℕ × Atom)) (gs : List Pure) (h : Memory) → match_goals ts cs ≡ Some gs → AreTrueFacts w ν gs
      → AreTrueAtoms w ν P (atoms_chosen cs) h → AreTrueTerms w.codes w.labels P ν ts h
  terms_match P [] [] gs h e t are = are
  terms_match P [] (c ∷ cs) gs h e t are = absurd cc
  terms_match P (term.Emp ∷ ts) cs gs h e t are = (empty, h, joins_comm (to_empty h), refl, terms_match P ts cs gs h e t are)
  terms_match P (term.Pure p ∷ ts) cs gs h e t are =
      let (q, qs, one, more, all) = goal_parts (Some p) (match_goals ts cs) gs e in
      let u = subst (AreTrueFacts w ν) (sym (ap (λ r. r ∷ qs) (some_same one) ∙ all)) t in
      (empty, h, joins_comm (to_empty h), (refl, u.0), terms_match P ts cs qs h more u.1 are)
  terms_match P (term.Atom x ∷ ts) [] gs h e t are = absurd cc
  terms_match P (term.Atom x ∷ ts) (c ∷ cs) gs h e t are =
      let (ps, qs, one, more, all) = goals_parts (atom_equations x c.1) (match_goals ts cs) gs e in
      let u = facts_parts ps qs (subst (AreTrueFacts w ν) (sym all) t) in
      (are.0, are.1, are.2, atom_matches P x c.1 ps are.0 one u.0 are.3, terms_match P ts cs qs are.1 more u.1 are.4)

  -- the whole memory: terms are true of a part of it, and the atoms that are left of the rest
  pub match_splits : (P : Meaning) (xs : List Atom) (ts : List Term) (cs : List (ℕ × Atom)) (gs : List Pure) (h : Memory)
      → AreNumbered xs cs → all_different cs ≡ true → match_goals ts cs ≡ Some gs → AreTrueFacts w ν gs → AreTrueAtoms w ν P xs h
      → (front back : Memory) × Joins h front back × AreTrueTerms w.codes w.labels P ν ts front × AreTrueAtoms w ν P (atoms_left cs 1 xs) back
  match_splits P xs ts cs gs h numbers different e t are =
      let (front, back, j, taken, left) = take_chosen w ν P xs cs h numbers different are in
      (front, back, j, terms_match P ts cs gs front e t taken, left)

-- What a match leaves: no more goals than children; and where they are true, terms under an instance are true of a part of the
-- memory where each variable has the value of its term.
abbrev pub LeavesMatch : (w : World) (ν : Values) (h : Memory) (s : SymState) (σ : Instance) (ts : List Term) (n : ℕ) → Matched → Type 0
LeavesMatch w ν h s σ ts n m =
    (length m.goals ≤ n)
    × ((depth : ℕ) → AreTrueAtoms w ν (meaning w depth) s.atoms h → AreTrueFacts w ν m.goals
    → (met rest : Memory) × Joins h met rest × AreTrueTerms w.codes w.labels (meaning w depth) (values_with σ w.labels ν) ts met
    × AreTrueAtoms w ν (meaning w depth) (atoms_numbered s.atoms m.left) rest)

pub match_leaves : (w : World) (ν : Values) (h : Memory) (s : SymState) (σ : Instance) (ts : List Term) (args : List DArg) (n : ℕ)
    → Every (LeavesMatch w ν h s σ ts n) (match_terms s (terms_with σ ts) args n)
match_leaves w ν h s σ ts args n c cs at different gs e = (
  (
      let k = and_parts (nat_le (count_of_atoms (terms_with σ ts)) (length args)) _ c in
      let le = leb-true _ n k.1 in
      let same = count_of_match (terms_with σ ts) cs gs e in
      omega arith
      ),
  λ depth are t.
      let P = meaning w depth in
      let (met, rest, j, true_terms, left) = match_splits w ν P s.atoms (terms_with σ ts) cs gs h
      (chosen_numbered s.atoms (drop (length args - count_of_atoms (terms_with σ ts)) args) cs at) different e t are in
      (met, rest, j, (terms_true_with w.codes w.labels σ ν P ts met).0 true_terms, subst (λ xs. AreTrueAtoms w ν P xs rest) (sym (numbers_are_left cs s.atoms)) left),
)
