-- Conditions that are valid, and some that aren't.
use Rattle.std.proofs.Common.{◌≡◌, ℕ, ◌+◌, ◌≤◌, List, [], ◌∷◌, codes, refl, sym, ◌∙◌, ap, subst, arith, All}
use Rattle.std.proofs.lemmas.List.Elements.{All-cons, All-nil}
use Rattle.bed_lang.specs.Numbers.{wrap}
use Rattle.bed_machine.specs.Memory.{Memory, empty}
use Rattle.bed_lang.specs.declared.word.Name.{Name}
use Rattle.bed_lang.specs.declared.word.Var.TheVariants as var
use Rattle.bed_lang.specs.declared.word.Word.{Number, Var as WordVar}
use Rattle.bed_lang.specs.declared.logic.Pure.{Pure}
use Rattle.bed_lang.specs.declared.logic.Pure.TheVariants as pure
use Rattle.bed_lang.specs.declared.logic.Term.TheVariants as term
use Rattle.bed_lang.specs.declared.condition.Decls.{Decls}
use Rattle.bed_lang.specs.declared.condition.Cond.{Cond}
use Rattle.bed_lang.specs.Prelude.{name}
use Rattle.bed_lang.specs.Values.{Values, Named, Old, Answer, set_word, value}
use Rattle.bed_lang.proofs.ValueLaws.{value-Number, value-Var}
use Rattle.bed_sat.specs.Parts.{Joins}
use Rattle.bed_sat.specs.Facts.{IsTrueFact}
use Rattle.bed_sat.specs.Assertions.{World, Holds}
use Rattle.bed_lang.specs.Declarations.{all_declarations}
use Rattle.bed_sat.specs.Valid.{set_local, IsValid}
use Rattle.bed_sat.specs.ConditionExamples.{name_at, word_at, counting_module, counting_begins, counting_goes_on, counting_ends, CountingIsValidExample, y, imported_signature, calling_module, CallIsValidExample}
use Rattle.bed_sat.proofs.ConditionExamples.{counting_example, calls, returns, calling_conditions}
use Rattle.bed_sat.proofs.PartLaws.{joins_empty, to_empty}

module _ (w : World) (ν : Values) where
  abbrev pub Fact : Pure → Type 0
  Fact f = IsTrueFact w.codes w.labels ν f

  -- `emp` holds on the empty memory alone
  pub emp_is : (at : ℕ) (h : Memory) → Holds w ν h (record { at = at; binders = []; terms = term.Emp ∷ [] }) → h ≡ empty
  emp_is at h is = let t = is.1 in joins_empty (subst (Joins h t.0) t.4 t.2) ∙ t.3

  pub emp_holds : (at : ℕ) (h : Memory) → h ≡ empty → Holds w ν h (record { at = at; binders = []; terms = term.Emp ∷ [] })
  emp_holds at h e = (0, (h, empty, to_empty h, e, refl))

  -- one fact, and two
  pub fact_is : (at : ℕ) (h : Memory) (f : Pure) → Holds w ν h (record { at = at; binders = []; terms = term.Pure f ∷ [] }) → (h ≡ empty) × Fact f
  fact_is at h f is = let t = is.1 in (joins_empty (subst (Joins h t.0) t.4 t.2) ∙ t.3.0, t.3.1)

  pub fact_holds : (at : ℕ) (h : Memory) (f : Pure) → h ≡ empty → Fact f → Holds w ν h (record { at = at; binders = []; terms = term.Pure f ∷ [] })
  fact_holds at h f e is = (0, (h, empty, to_empty h, (e, is), refl))

  pub facts_are : (at : ℕ) (h : Memory) (f g : Pure) → Holds w ν h (record { at = at; binders = []; terms = term.Pure f ∷ term.Pure g ∷ [] })
      → (h ≡ empty) × Fact f × Fact g
  facts_are at h f g is =
      let t = is.1 in
      let u = t.4 in
      let rest : t.1 ≡ empty = joins_empty (subst (Joins t.1 u.0) u.4 u.2) ∙ u.3.0 in
      (joins_empty (subst (Joins h t.0) rest t.2) ∙ t.3.0, t.3.1, u.3.1)

  pub facts_hold : (at : ℕ) (h : Memory) (f g : Pure) → h ≡ empty → Fact f → Fact g
      → Holds w ν h (record { at = at; binders = []; terms = term.Pure f ∷ term.Pure g ∷ [] })
  facts_hold at h f g e is it = (0, (h, empty, to_empty h, (e, is), (empty, empty, to_empty empty, (refl, it), refl)))

-- ---- the loop that counts

-- [i <= n], and [n = old n]
abbrev within : Pure
within = pure.AtMost (word_at (codes "i") 131) (word_at (codes "n") 136)

abbrev kept : Pure
kept = pure.Equal (word_at (codes "n") 142) (WordVar (var.Old (name_at (codes "n") 146)))

abbrev counting_decls : Decls
counting_decls = all_declarations (counting_module ∷ [])

-- the values of its variables, wherever they stand
module _ (labels : List ℕ → ℕ) (ν : Values) where
  i_is : (at : ℕ) → value labels ν (word_at (codes "i") at) ≡ wrap (ν.words (Named (codes "i")))
  i_is at = value-Var labels ν (var.Named (name_at (codes "i") at))

  n_is : (at : ℕ) → value labels ν (word_at (codes "n") at) ≡ wrap (ν.words (Named (codes "n")))
  n_is at = value-Var labels ν (var.Named (name_at (codes "n") at))

  old_is : (at : ℕ) → value labels ν (WordVar (var.Old (name_at (codes "n") at))) ≡ wrap (ν.words (Old (codes "n")))
  old_is at = value-Var labels ν (var.Old (name_at (codes "n") at))

begins_valid : IsValid counting_decls counting_begins
begins_valid = record {
  holds = λ code_map labels fit ν h starts.
      let w : World = record { decls = counting_decls; codes = code_map; labels = labels } in
      let μ : Values = set_local ν (name_at (codes "i") 100) 0 in
      let same : wrap (ν.words (Named (codes "n"))) ≡ wrap (ν.words (Old (codes "n"))) = starts.entry refl (name_at (codes "n") 22) (0, omega arith, refl) in
      facts_hold w μ 130 h within kept (emp_is w ν 41 h starts.holds) (rw (i_is labels μ 131, n_is labels μ 136) (omega arith)) (n_is labels μ 142 ∙ same ∙ sym (old_is labels μ 146));
}

goes_on_valid : IsValid counting_decls counting_goes_on
goes_on_valid = record {
  holds = λ code_map labels fit ν h starts below.
      let w : World = record { decls = counting_decls; codes = code_map; labels = labels } in
      let μ : Values = set_local ν (name_at (codes "i") 155) (wrap (wrap (ν.words (Named (codes "i"))) + 1)) in
      let was = facts_are w ν 130 h within kept starts.holds in
      facts_hold w μ 130 h within kept was.0 (rw (i_is labels μ 131, n_is labels μ 136) (omega (arith, below)))
      (n_is labels μ 142 ∙ sym (n_is labels ν 142) ∙ was.2 ∙ old_is labels ν 146 ∙ sym (old_is labels μ 146));
}

ends_valid : IsValid counting_decls counting_ends
ends_valid = record {
  holds = λ code_map labels fit ν h starts over.
      let w : World = record { decls = counting_decls; codes = code_map; labels = labels } in
      let was = facts_are w ν 130 h within kept starts.holds in
      let μ : Values = set_word (set_word ν (Named (codes "n")) (ν.words (Old (codes "n")))) Answer (wrap (ν.words (Named (codes "i")))) in
      let low : wrap (ν.words (Named (codes "i"))) ≤ wrap (ν.words (Named (codes "n"))) = rw (sym (i_is labels ν 131), sym (n_is labels ν 136)) was.1 in
      let same : wrap (ν.words (Named (codes "n"))) ≡ wrap (ν.words (Old (codes "n"))) = sym (n_is labels ν 142) ∙ was.2 ∙ old_is labels ν 146 in
      fact_holds w μ 50 h (pure.Equal (WordVar (var.Answer 51)) (word_at (codes "n") 60)) was.0
      (value-Var labels μ (var.Answer 51) ∙ omega (arith, over, low, same) ∙ sym (n_is labels μ 60));
}

pub counting_is_valid : CountingIsValidExample
counting_is_valid =
    let P : Cond → Type 0 = IsValid counting_decls in
    subst (All P) (sym counting_example)
    (All-cons P counting_begins (counting_goes_on ∷ counting_ends ∷ []) begins_valid
    (All-cons P counting_goes_on (counting_ends ∷ []) goes_on_valid
    (All-cons P counting_ends [] ends_valid (All-nil P))))

-- ---- a call

abbrev calling_decls : Decls
calling_decls = all_declarations (calling_module ∷ [])

calls_valid : IsValid calling_decls calls
calls_valid = record {
  holds = λ code_map labels fit ν h starts.
      let w : World = record { decls = calling_decls; codes = code_map; labels = labels } in
      let x : Name = name (codes "x") in
      let sets : Values = set_word ν (Named (codes "x")) 7 in
      let nothing : h ≡ empty = emp_is w ν 0 h starts.holds in
      record {
        name = name (codes "G");
        callee = imported_signature;
        named = refl;
        declared = refl;
        count = refl;
        code = fit (codes "g") (name (codes "G")) refl;
        values = ν;
        given = h;
        rest = empty;
        parts = to_empty h;
        pre = emp_holds w sets 0 h nothing;
        goes_on = λ answer back whole small joins promised.
            let μ : Values = set_word sets Answer answer in
            let after : Values = set_local ν y answer in
            let was = fact_is w μ 0 back (pure.Equal (WordVar (var.Answer 0)) (WordVar (var.Named x))) promised in
            let seven : wrap answer ≡ 7 = sym (value-Var labels μ (var.Answer 0)) ∙ was.1 ∙ value-Var labels μ (var.Named x) in
            fact_holds w after 0 whole (pure.Equal (WordVar (var.Named y)) (Number 7)) (joins_empty joins ∙ was.0)
            (value-Var labels after (var.Named y) ∙ seven ∙ sym (value-Number labels after 7));
      };
}

returns_valid : IsValid calling_decls returns
returns_valid = record {
  holds = λ code_map labels fit ν h starts.
      let w : World = record { decls = calling_decls; codes = code_map; labels = labels } in
      let μ : Values = set_word ν Answer (wrap (ν.words (Named (codes "y")))) in
      let was = fact_is w ν 0 h (pure.Equal (WordVar (var.Named y)) (Number 7)) starts.holds in
      let seven : wrap (ν.words (Named (codes "y"))) ≡ 7 = sym (value-Var labels ν (var.Named y)) ∙ was.1 ∙ value-Number labels ν 7 in
      fact_holds w μ 0 h (pure.Equal (WordVar (var.Answer 0)) (Number 7)) was.0
      (value-Var labels μ (var.Answer 0) ∙ ap wrap seven ∙ sym (value-Number labels μ 7));
}

pub call_is_valid : CallIsValidExample
call_is_valid =
    let P : Cond → Type 0 = IsValid calling_decls in
    subst (All P) (sym calling_conditions) (All-cons P calls (returns ∷ []) calls_valid (All-cons P returns [] returns_valid (All-nil P)))
