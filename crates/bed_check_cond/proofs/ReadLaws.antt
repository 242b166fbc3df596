-- What a path reads: operands, places and tests have the values of their terms; and a local that is set is read so.
use Rattle.std.proofs.Common.{◌≡◌, ℕ, ◌+◌, Bool, true, false, ◌||◌, IsTrue, if◌then◌else◌, List, [], ◌∷◌, map, Option, Some, None, refl, sym, ◌∙◌, ap, ap₂, subst, arith}
use Rattle.std.specs.Prelude.{bytes_eq}
use Rattle.std.proofs.lemmas.Bool.{and_parts, or_parts}
use Rattle.bed_machine.proofs.WordLaws.{some_same}
use Rattle.bed_lang.specs.declared.word.Name.{Name}
use Rattle.bed_lang.specs.declared.word.Word.{Word, Number, Add}
use Rattle.bed_lang.specs.declared.module.Operand.{Operand}
use Rattle.bed_lang.specs.declared.module.Operand.TheVariants as operand
use Rattle.bed_lang.specs.declared.module.Place.{Place}
use Rattle.bed_lang.specs.declared.module.Rel.{Rel}
use Rattle.bed_lang.specs.declared.module.Rel.TheVariants as rel
use Rattle.bed_lang.specs.Numbers.{wrap}
use Rattle.bed_lang.specs.Values.{Values, Variable, Named, same_variable, value}
use Rattle.bed_lang.proofs.ValueLaws.{value-Number, value-Label, value-Add}
use Rattle.bed_sat.specs.Valid.{AreRelated, operand_value, place_value, set_local}
use Rattle.bed_sat.specs.Facts.{IsTrueFact}
use Rattle.bed_sat.specs.Assertions.{World}
use Rattle.bed_sat.proofs.FrameLaws.{bytes_eq_is}
use Rattle.bed_deriv.specs.Fresh.{every, known_local}
use Rattle.bed_deriv.specs.Steps as steps
use Rattle.bed_deriv.specs.Steps.{local_term, for_local, operand_term, plus_number, place_term, word_before, operand_terms, with_term, relation}
use Rattle.bed_check_heap.specs.Sound.{AgreeBelow}
use Rattle.bed_check_heap.proofs.FreshLaws.{value_known}
use Rattle.bed_check_cond.specs.Paths.{is_local, AreRead, ReadsLocals}
use Rattle.bed_check_cond.proofs.ValueLaws.{no_fresh}

-- ---- operands

pub words_parts : (o : Option Word) (os : Option (List Word)) (ts : List Word) → word_before o os ≡ Some ts
    → (u : Word) × (us : List Word) × (o ≡ Some u) × (os ≡ Some us) × (u ∷ us ≡ ts)
words_parts (Some u) (Some us) ts e = (u, us, refl, refl, some_same e)
words_parts (Some u) None ts e = absurd cc
words_parts None os ts e = absurd cc

module _ (labels : List ℕ → ℕ) (ν μ : Values) where
  local_read : (ls : List (Name × Word)) (x : List ℕ) (t : Word) → AreRead labels ls ν μ → local_term ls x ≡ Some t → wrap (μ.words (Named x)) ≡ value labels ν t
  local_read [] x t are e = absurd cc
  local_read (l ∷ ls) x t are e = by (bytes_eq l.0.bytes x) refl e (λ d. local_read ls x t are.1 d)
    where
      by : (b : Bool) → bytes_eq l.0.bytes x ≡ b → (if b then Some l.1 else local_term ls x) ≡ Some t → (local_term ls x ≡ Some t → wrap (μ.words (Named x)) ≡ value labels ν t)
          → wrap (μ.words (Named x)) ≡ value labels ν t
      by true same e more = subst (λ (z : List ℕ). wrap (μ.words (Named z)) ≡ value labels ν t) (bytes_eq_is l.0.bytes x same) (are.0 ∙ ap (value labels ν) (some_same e))
      by false same e more = more e

  pub operand_read : (ls : List (Name × Word)) (a : Operand) (t : Word) → AreRead labels ls ν μ → operand_term ls a ≡ Some t → operand_value labels μ a ≡ value labels ν t
  operand_read ls (operand.Number n) t are e = sym (value-Number labels ν n) ∙ ap (value labels ν) (some_same e)
  operand_read ls (operand.Local x) t are e = local_read ls x.bytes t are e
  operand_read ls (operand.Label f) t are e = sym (value-Label labels ν f) ∙ ap (value labels ν) (some_same e)

  pub place_read : (ls : List (Name × Word)) (p : Place) (t : Word) → AreRead labels ls ν μ → place_term ls p ≡ Some t → place_value labels μ p ≡ value labels ν t
  place_read ls p t are e = by (operand_term ls p.base) refl e
    where
      by : (o : Option Word) → operand_term ls p.base ≡ o → plus_number o p.disp ≡ Some t → place_value labels μ p ≡ value labels ν t
      by None q e = absurd cc
      by (Some b) q e =
          let base = operand_read ls p.base b are q in
          let sum = value-Add labels ν b (Number p.disp) in
          let disp = value-Number labels ν p.disp in
          let all : wrap (operand_value labels μ p.base + p.disp) ≡ value labels ν (Add b (Number p.disp)) = omega (arith, base, sum, disp) in
          all ∙ ap (value labels ν) (some_same e)

  pub operands_read : (ls : List (Name × Word)) (as' : List Operand) (ts : List Word) → AreRead labels ls ν μ → operand_terms ls as' ≡ Some ts
      → map (operand_value labels μ) as' ≡ map (value labels ν) ts
  operands_read ls [] ts are e = ap (map (value labels ν)) (some_same e)
  operands_read ls (a ∷ as') ts are e =
      let (u, us, one, more, all) = words_parts (operand_term ls a) (operand_terms ls as') ts e in
      ap₂ (λ v vs. v ∷ vs) (operand_read ls a u are one) (operands_read ls as' us are more) ∙ ap (map (value labels ν)) all

  -- a test is true where its fact is
  pub relation_true : (w : World) (r : Rel) (a b : Word) (m n : ℕ) → m ≡ value w.labels ν a → n ≡ value w.labels ν b → AreRelated r m n → IsTrueFact w.codes w.labels ν (relation r a b)
  relation_true w rel.Equal a b m n e d t = sym e ∙ t ∙ d
  relation_true w rel.Unequal a b m n e d t = λ same. t (e ∙ same ∙ sym d)
  relation_true w rel.Less a b m n e d t = omega (arith, e, d, t)
  relation_true w rel.AtMost a b m n e d t = omega (arith, e, d, t)

-- ---- a local that is set

for_some : {A : Type 0} (o : Option Word) (x y : A) → for_local o x ≡ Some y → (t : Word) × (o ≡ Some t) × (x ≡ y)
for_some None x y e = absurd cc
for_some (Some t) x y e = (t, refl, some_same e)

module _ (labels : List ℕ → ℕ) (ν μ : Values) (x : Name) (t : Word) (v : ℕ) (e : wrap v ≡ value labels ν t) where
  -- the locals' names stay
  names_stay : (ls : List (Name × Word)) (y : Variable) → is_local (with_term ls x t) y ≡ is_local ls y
  names_stay [] y = refl
  names_stay (l ∷ ls) y = ap₂ (λ a b. a || b) (by (bytes_eq l.0.bytes x.bytes)) (names_stay ls y)
    where
      by : (b : Bool) → same_variable y (Named (if b then (l.0, t) else l).0.bytes) ≡ same_variable y (Named l.0.bytes)
      by true = refl
      by false = refl

  one_set : (l : Name × Word) → wrap (μ.words (Named l.0.bytes)) ≡ value labels ν l.1 → (b : Bool) → bytes_eq l.0.bytes x.bytes ≡ b
      → wrap (if b then v else μ.words (Named l.0.bytes)) ≡ value labels ν (if b then (l.0, t) else l).1
  one_set l is true same = e
  one_set l is false same = is

  same_name : (l : Name × Word) (b : Bool) → (if b then (l.0, t) else l).0 ≡ l.0
  same_name l true = refl
  same_name l false = refl

  all_set : (ls : List (Name × Word)) → AreRead labels ls ν μ → AreRead labels (with_term ls x t) ν (set_local μ x v)
  all_set [] are = tt
  all_set (l ∷ ls) are = (
    ap (λ (z : Name). wrap ((set_local μ x v).words (Named z.bytes))) (same_name l (bytes_eq l.0.bytes x.bytes))
        ∙ one_set l are.0 (bytes_eq l.0.bytes x.bytes) refl,
    all_set ls are.1,
  )

  -- one of them has the name
  has_name : (ls : List (Name × Word)) (u : Word) (y : Variable) → local_term ls x.bytes ≡ Some u → is_local ls y ≡ false → same_variable y (Named x.bytes) ≡ false
  has_name [] u y is out = absurd cc
  has_name (l ∷ ls) u y is out = by (bytes_eq l.0.bytes x.bytes) refl is (λ d. has_name ls u y d (or_parts (same_variable y (Named l.0.bytes)) (is_local ls y) out).1)
    where
      by : (b : Bool) → bytes_eq l.0.bytes x.bytes ≡ b → (if b then Some l.1 else local_term ls x.bytes) ≡ Some u → (local_term ls x.bytes ≡ Some u → same_variable y (Named x.bytes) ≡ false)
          → same_variable y (Named x.bytes) ≡ false
      by true same is more = subst (λ (z : List ℕ). same_variable y (Named z) ≡ false) (bytes_eq_is l.0.bytes x.bytes same) (or_parts (same_variable y (Named l.0.bytes)) (is_local ls y) out).0
      by false same is more = more is

  pub local_set : (ls ls' : List (Name × Word)) → steps.set_local ls x t ≡ Some ls' → ReadsLocals labels ls ν μ → ReadsLocals labels ls' ν (set_local μ x v)
  local_set ls ls' is r =
      let (u, found, same) = for_some (local_term ls x.bytes) (with_term ls x t) ls' is in
      subst (λ (zs : List (Name × Word)). ReadsLocals labels zs ν (set_local μ x v)) same (record {
        locals = all_set ls r.locals;
        others = λ y f out.
            let no : is_local ls y ≡ false = sym (names_stay ls y) ∙ out in
            ap (λ (b : Bool). if b then v else μ.words y) (has_name ls u y found no) ∙ r.others y f no;
        lists = r.lists;
      })

-- ---- values that agree on what is known

module _ (w : World) (next : ℕ) (ν κ μ : Values) (g : AgreeBelow next ν κ) where
  are_read : (ls : List (Name × Word)) → IsTrue (every (known_local next) ls) → AreRead w.labels ls ν μ → AreRead w.labels ls κ μ
  are_read [] known are = tt
  are_read (l ∷ ls) known are =
      let k = and_parts (known_local next l) (every (known_local next) ls) known in
      (are.0 ∙ value_known w next ν κ g l.1 k.0, are_read ls k.1 are.1)

  pub reads_known : (ls : List (Name × Word)) → IsTrue (every (known_local next) ls) → ReadsLocals w.labels ls ν μ → ReadsLocals w.labels ls κ μ
  reads_known ls known r = record {
    locals = are_read ls known r.locals;
    others = λ y f out. r.others y f out ∙ sym (g.words y (λ n e. no_fresh y n f e));
    lists = λ y f. r.lists y f ∙ sym (g.lists y (λ n e. no_fresh y n f e));
  }
