-- The rule solve is sound: the term that an equation gives for a variable has the variable's value where the equation is true.
use Rattle.std.proofs.Common.{◌≡◌, ℕ, ◌+◌, ◌*◌, ◌<◌, Bool, true, false, ◌&&◌, ◌==◌, not, if◌then◌else◌, List, [], ◌∷◌, ◌++◌, map, Option, Some, None, refl, sym, ◌∙◌, ap, subst, arith}
use Rattle.std.specs.Cmp.{unsigned_Decides}
use Rattle.std.specs.Cmp.Lexicographic.{slice_cmp, bytes_decides}
use Rattle.std.specs.Str.{bytes_eq}
use Rattle.std.specs.declared.cmp.Ordering.TheVariants as ordering
use Rattle.std.specs.Ordering.{nat_cmp}
use Rattle.std.proofs.lemmas.Bool.{and_parts, both_ways}
use Rattle.bed_machine.specs.Memory.{Memory}
use Rattle.bed_lang.specs.declared.word.Var.{Var}
use Rattle.bed_lang.specs.declared.word.Word.{Word, Var as WordVar}
use Rattle.bed_lang.specs.declared.word.Seq.{Seq, Var as SeqVar}
use Rattle.bed_lang.specs.declared.form.Key.{Key}
use Rattle.bed_lang.specs.declared.form.Key.TheVariants as key
use Rattle.bed_lang.specs.declared.form.Form.{Form}
use Rattle.bed_lang.specs.declared.form.Piece.{Piece}
use Rattle.bed_lang.specs.declared.form.Piece.TheVariants.{Sequence}
use Rattle.bed_lang.specs.declared.logic.Pure.{Pure}
use Rattle.bed_lang.specs.declared.logic.Pure.TheVariants.{Equal, Same}
use Rattle.bed_lang.specs.Numbers.{wrap}
use Rattle.bed_lang.specs.Values.{Values, Variable, Named, Old, Answer, Fresh, Hole, variable, same_variable, value, list_value}
use Rattle.bed_lang.specs.Keys.{same_key, key_text, key_order}
use Rattle.bed_lang.specs.Forms.{Part, times_form, seq_form}
use Rattle.bed_lang.specs.Coefficients.{key_value, parts_value, form_value, pieces_value, coefficient_in, ComesBefore, IsOrdered}
use Rattle.bed_lang.specs.Instances.{Instance}
use Rattle.bed_lang.proofs.ValueLaws.{value-Var, value-small, list_value-Var, same_var_is}
use Rattle.bed_lang.specs.Differences.{difference}
use Rattle.bed_forms.proofs.KeyLaws.{text-bare, bare-value, order-self}
use Rattle.bed_forms.proofs.FormValues.{times-form_value}
use Rattle.bed_forms.proofs.FormOrder.{IsNormal}
use Rattle.bed_forms.proofs.FormLaws.{pieces-value}
use Rattle.bed_forms.proofs.SameForms.{same_key-decides, text-of_bare}
use Rattle.bed_forms.proofs.DifferenceLaws.{difference-value, difference-normal}
use Rattle.bed_sat.specs.Facts.{IsTrueFact}
use Rattle.bed_sat.specs.Assertions.{World}
use Rattle.bed_deriv.specs.declared.derivation.DArg.{DArg}
use Rattle.bed_deriv.specs.declared.state.Sequent.{Sequent}
use Rattle.bed_deriv.specs.Opening.{occurrence, word_set, seq_set}
use Rattle.bed_forms.specs.Rebuilt.{form_word, pieces_seq}
use Rattle.bed_deriv.specs.PureRules.{parts_but, form_but, solved_by, is_just, has_sequence, solved_sequence, solution, solve}
use Rattle.bed_check_pure.proofs.CheckLaws.{IsSoundCheck}
use Rattle.bed_check_pure.proofs.RuleLaws.{counted, fact_true, goal_true}
use Rattle.bed_check_pure.proofs.RebuiltLaws.{form_word-value, pieces_seq-value}
use Rattle.bed_check_pure.proofs.ReplacedLaws.{Keeps, replaced_holds, from_replaced}

same_variable-is : (x y : Variable) → same_variable x y ≡ true → x ≡ y
same_variable-is (Named a) (Named b) h = ap Named ((bytes_decides a b).0 h)
same_variable-is (Old a) (Old b) h = ap Old ((bytes_decides a b).0 h)
same_variable-is Answer Answer h = refl
same_variable-is (Fresh a) (Fresh b) h = ap Fresh ((unsigned_Decides a b).0 h)
same_variable-is Hole Hole h = refl
same_variable-is (Named a) _ h = absurd (cc)
same_variable-is (Old a) _ h = absurd (cc)
same_variable-is Answer _ h = absurd (cc)
same_variable-is (Fresh a) _ h = absurd (cc)
same_variable-is Hole _ h = absurd (cc)

of_occurrence : (x : Variable) → variable (occurrence x) ≡ x
of_occurrence (Named x) = refl
of_occurrence (Old x) = refl
of_occurrence Answer = refl
of_occurrence (Fresh n) = refl
of_occurrence Hole = refl

pub same_key-text : (a b : Key) → same_key a b ≡ true → key_text a ≡ key_text b
same_key-text a b h = sym (text-of_bare a) ∙ ap key_text ((same_key-decides a b).0 h) ∙ text-of_bare b

pub text-same_key : (a b : Key) → key_text a ≡ key_text b → same_key a b ≡ true
text-same_key a b e = (same_key-decides a b).1 (text-bare a b e)

module _ (v : Var) where
  abbrev k : Key
  k = key.Var v

  -- no key that comes later in the order is the same
  later : (ps : List Part) → ComesBefore k ps → parts_but v ps ≡ ps
  later [] before = refl
  later (p ∷ ps) before = by (same_key p.0 k) (same_key-text p.0 k) (later ps before.1)
    where
      by : (t : Bool) → (t ≡ true → key_text p.0 ≡ key_text k) → parts_but v ps ≡ ps → (if t then parts_but v ps else p ∷ parts_but v ps) ≡ p ∷ ps
      by false same rest = ap (λ qs. p ∷ qs) rest
      by true same rest =
          let e : key_order k p.0 ≡ ordering.Equal = ap (slice_cmp nat_cmp (key_text k)) (same refl) ∙ order-self k in
          absurd (let l = before.0 in cc)

  before_like : (j : Key) (ps : List Part) → key_text j ≡ key_text k → ComesBefore j ps → ComesBefore k ps
  before_like j [] e before = tt
  before_like j (p ∷ ps) e before = (ap (λ t. slice_cmp nat_cmp t (key_text p.0)) (sym e) ∙ before.0, before_like j ps e before.1)

module _ (labels : List ℕ → ℕ) (ν : Values) (v : Var) where
  abbrev V : Word → ℕ
  V = value labels ν

  abbrev K : Key → ℕ
  K = key_value labels ν

  abbrev S : List Part → ℕ
  S = parts_value K

  abbrev W : Form → ℕ
  W = form_value labels ν

  abbrev X : ℕ
  X = K (key.Var v)

  text-value : (a b : Key) → key_text a ≡ key_text b → K a ≡ K b
  text-value a b e = sym (bare-value labels ν a) ∙ ap K (text-bare a b e) ∙ bare-value labels ν b

  -- parts are those of the variable and the others
  parts_apart : (ps : List Part) → IsOrdered ps → S ps ≡ wrap (coefficient_in (key.Var v) ps * X + S (parts_but v ps))
  parts_apart [] s = omega arith
  parts_apart (p ∷ ps) s =
      by (same_key p.0 (key.Var v)) (bytes_eq (key_text (key.Var v)) (key_text p.0)) (same_key-text p.0 (key.Var v))
      (λ e. text-same_key p.0 (key.Var v) (sym ((bytes_decides (key_text (key.Var v)) (key_text p.0)).0 e)))
      (λ e. (bytes_decides (key_text (key.Var v)) (key_text p.0)).1 (sym e))
      (parts_apart ps s.4)
    where
      by : (t u : Bool) → (t ≡ true → key_text p.0 ≡ key_text (key.Var v)) → (u ≡ true → t ≡ true) → (key_text p.0 ≡ key_text (key.Var v) → u ≡ true)
          → S ps ≡ wrap (coefficient_in (key.Var v) ps * X + S (parts_but v ps))
          → wrap (p.1 * K p.0 + S ps) ≡ wrap ((if u then p.1 else coefficient_in (key.Var v) ps) * X + S (if t then parts_but v ps else p ∷ parts_but v ps))
      by true true same one two rest =
          let e = text-value p.0 (key.Var v) (same refl) in
          let l = later v ps (before_like v p.0 ps (same refl) s.3) in rw (e, l) refl
      by true false same one two rest = absurd (both_ways false refl (two (same refl)))
      by false true same one two rest = absurd (both_ways false refl (one refl))
      by false false same one two rest = omega arith

  form_apart : (f : Form) → IsNormal f → W f ≡ wrap (coefficient_in (key.Var v) f.parts * X + W (form_but v f))
  form_apart f s = let e = parts_apart f.parts s.1 in omega arith

  word_keeps : (by : Word) → V by ≡ wrap X → Keeps labels ν (word_set v by)
  word_keeps by e = record {
    words = λ y. here y (same_variable y (variable v)) (same_variable-is y (variable v));
    lists = λ y. list_value-Var labels ν (occurrence y) ∙ ap (λ x. map wrap (ν.lists x)) (of_occurrence y);
  }
    where
      here : (y : Variable) (t : Bool) → (t ≡ true → y ≡ variable v) → V (if t then by else WordVar (occurrence y)) ≡ wrap (ν.words y)
      here y true same = e ∙ ap (λ x. wrap (ν.words x)) (sym (same refl))
      here y false same = value-Var labels ν (occurrence y) ∙ ap (λ x. wrap (ν.words x)) (of_occurrence y)

  seq_keeps : (by : Seq) → list_value labels ν by ≡ map wrap (ν.lists (variable v)) → Keeps labels ν (seq_set v by)
  seq_keeps by e = record {
    words = λ y. value-Var labels ν (occurrence y) ∙ ap (λ x. wrap (ν.words x)) (of_occurrence y);
    lists = λ y. here y (same_variable y (variable v)) (same_variable-is y (variable v));
  }
    where
      here : (y : Variable) (t : Bool) → (t ≡ true → y ≡ variable v) → list_value labels ν (if t then by else SeqVar (occurrence y)) ≡ map wrap (ν.lists y)
      here y true same = e ∙ ap (λ x. map wrap (ν.lists x)) (sym (same refl))
      here y false same = list_value-Var labels ν (occurrence y) ∙ ap (λ x. map wrap (ν.lists x)) (of_occurrence y)

  abbrev KeepsIf : Option Instance → Type 0
  KeepsIf None = Unit {0}
  KeepsIf (Some σ) = Keeps labels ν σ

  less_rest : (x r : ℕ) → r < 4294967296 → wrap (1 * x + r) ≡ 0 → wrap (4294967295 * r) ≡ wrap x
  less_rest x r l e = omega arith

  the_rest : (x r : ℕ) → r < 4294967296 → wrap (4294967295 * x + r) ≡ 0 → r ≡ wrap x
  the_rest x r l e = omega arith

  solved_keeps : (f : Form) (c : ℕ) → wrap (c * X + W (form_but v f)) ≡ 0 → KeepsIf (solved_by v f c)
  solved_keeps f c e = by (c == 1) (c == 4294967295) (unsigned_Decides c 1).0 (unsigned_Decides c 4294967295).0
    where
      rest : Form
      rest = form_but v f

      small : W rest < 4294967296
      small = omega arith

      by : (t u : Bool) → (t ≡ true → c ≡ 1) → (u ≡ true → c ≡ 4294967295)
          → KeepsIf (if t then Some (word_set v (form_word (times_form 4294967295 rest))) else (if u then Some (word_set v (form_word rest)) else None))
      by true u one many = word_keeps (form_word (times_form 4294967295 rest))
          (form_word-value labels ν (times_form 4294967295 rest) ∙ times-form_value labels ν 4294967295 rest
          ∙ less_rest X (W rest) small (subst (λ n. wrap (n * X + W rest) ≡ 0) (one refl) e))
      by false true one many = word_keeps (form_word rest)
          (form_word-value labels ν rest ∙ the_rest X (W rest) small (subst (λ n. wrap (n * X + W rest) ≡ 0) (many refl) e))
      by false false one many = tt

  abbrev words : List Piece → List ℕ
  words = pieces_value labels ν

  all_of : (xs : List ℕ) → xs ++ [] ≡ xs
  all_of [] = refl
  all_of (x ∷ xs) = ap (λ ys. x ∷ ys) (all_of xs)

  just_value : (ps : List Piece) → is_just v ps ≡ true → words ps ≡ map wrap (ν.lists (variable v))
  just_value (Sequence x ∷ []) is =
      all_of (map wrap (ν.lists (variable x))) ∙ ap (λ y. map wrap (ν.lists y)) (same_variable-is (variable x) (variable v) (sym (same_var_is x v) ∙ is))
  just_value _ is = absurd (cc)

  sequence_keeps : (ps qs : List Piece) → words ps ≡ words qs → KeepsIf (solved_sequence v ps qs)
  sequence_keeps ps qs e =
      by (is_just v ps && not (has_sequence v qs)) (is_just v qs && not (has_sequence v ps))
      (λ t. (and_parts (is_just v ps) (not (has_sequence v qs)) t).0) (λ t. (and_parts (is_just v qs) (not (has_sequence v ps)) t).0)
    where
      by : (t u : Bool) → (t ≡ true → is_just v ps ≡ true) → (u ≡ true → is_just v qs ≡ true)
          → KeepsIf (if t then Some (seq_set v (pieces_seq qs)) else (if u then Some (seq_set v (pieces_seq ps)) else None))
      by true u one other = seq_keeps (pieces_seq qs) (pieces_seq-value labels ν qs ∙ sym e ∙ just_value ps (one refl))
      by false true one other = seq_keeps (pieces_seq ps) (pieces_seq-value labels ν ps ∙ e ∙ just_value qs (other refl))
      by false false one other = tt

  difference_none : (a b : Word) → V a ≡ V b → W (difference a b) ≡ 0
  difference_none a b same = let d = difference-value labels ν a b in let l = value-small labels ν b in omega arith

  -- where the equation is true, what it gives for the variable has the variable's value
  solution_keeps : (codes : ℕ → Option (List ℕ)) (p : Pure) → IsTrueFact codes labels ν p → KeepsIf (solution v p)
  solution_keeps codes (Equal a b) t =
      solved_keeps (difference a b) (coefficient_in (key.Var v) (difference a b).parts)
      (sym (form_apart (difference a b) (difference-normal a b)) ∙ difference_none a b t)
  solution_keeps codes (Same s u) t = sequence_keeps (seq_form s) (seq_form u) (pieces-value labels ν s ∙ t ∙ sym (pieces-value labels ν u))
  solution_keeps codes _ t = tt

module _ (w : World) (ν : Values) (h : Memory) where
  pub solve_sound : (q : Sequent) (args : List DArg) (n : ℕ) → IsSoundCheck w ν h q n (solve q.state (Some q.goal) args n)
  solve_sound q args n count p at v is g goal σ found = (
    counted args 2 n 1 count,
    λ above holds.
        let keeps = subst (KeepsIf w.labels ν v) found (solution_keeps w.labels ν v w.codes p (fact_true w ν h q.state args 0 p at holds)) in
        goal_true w ν h q g goal (from_replaced w ν σ keeps g (above.0 (replaced_holds w ν σ keeps h q.state holds))),
  )
