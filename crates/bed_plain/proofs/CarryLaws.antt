-- A solution of the edges between the forms of a graph is carried on to every form.
use Rattle.std.proofs.Common.{◌≡◌, ℕ, ◌+◌, ◌≤◌, ◌<◌, Bool, true, false, ◌&&◌, ◌==◌, nat_lt, if◌then◌else◌, List, [], ◌∷◌, Option, Some, None, refl, ap, sym, ◌∙◌, subst, arith}
use Rattle.std.proofs.lemmas.Bool.{and_parts, ltb-true, lt-ltb}
use Rattle.bed_lang.specs.declared.form.Form.{Form}
use Rattle.bed_lang.specs.declared.word.Word.{Word}
use Rattle.bed_lang.specs.declared.logic.Pure.{Pure}
use Rattle.bed_lang.specs.Forms.{word_form, same_form}
use Rattle.bed_deriv.specs.declared.state.SymState.{SymState}
use Rattle.bed_deriv.specs.Fresh.{known_word}
use Rattle.bed_deriv.specs.Arguments.{numbered}
use Rattle.bed_lang.specs.SameFacts.{is_constant}
use Rattle.bed_plain.specs.Chained.{has_form, FactHolds, Solves, zero_form, top_form}

-- another constant has its distance from 0, any other form the value of 0
abbrev pub outside : ℕ → Form → ℕ
outside zero' f = if is_constant f && nat_lt f.constant 4294967296 then zero' + f.constant else zero'

abbrev pub carry : List Form → (Form → ℕ) → Form → ℕ
carry forms value f = if has_form f forms then value f else outside (value zero_form) f

module _ (s : SymState) (forms : List Form) (value : Form → ℕ)
    -- forms that are the same are in the graph together, and have one value there; the forms of 0 and 4294967295 are in it
    (together : (f g : Form) → same_form f g ≡ true → (has_form f forms ≡ has_form g forms) × (is_constant f ≡ is_constant g) × (f.constant ≡ g.constant))
    (alike : (f g : Form) → same_form f g ≡ true → value f ≡ value g)
    (has_zero : has_form zero_form forms ≡ true) (has_top : has_form top_form forms ≡ true)
    -- the edges k, z and h between its forms
    (constants : (f : Form) → has_form f forms ≡ true → is_constant f ≡ true → value f ≡ value zero_form + f.constant)
    (top_far : value top_form ≡ value zero_form + 4294967295)
    (least : (w : Word) → known_word s.next w ≡ true → has_form (word_form w) forms ≡ true → value zero_form ≤ value (word_form w))
    (largest : (f : Form) → has_form f forms ≡ true → value f ≤ value top_form) where
  v : Form → ℕ
  v = carry forms value

  inside : (f : Form) → has_form f forms ≡ true → carry forms value f ≡ value f
  inside f e = ap (λ b. if b then value f else outside (value zero_form) f) e

  -- the legs of the facts lie in the graph, so they hold under the values that are carried on where they hold in it
  pub carried_solves : ((i : ℕ) (p : Pure) → numbered s.facts i ≡ Some p → FactHolds (carry forms value) p) → Solves s (carry forms value)
  carried_solves hold = record { alike = alike'; facts_hold = hold; constants = constants'; least = least'; largest = largest' } where
    at_zero : carry forms value zero_form ≡ value zero_form
    at_zero = inside zero_form has_zero

    at_top : carry forms value top_form ≡ value top_form
    at_top = inside top_form has_top

    alike' : (f g : Form) → same_form f g ≡ true → carry forms value f ≡ carry forms value g
    alike' f g e = by (has_form f forms) refl where
      t : (has_form f forms ≡ has_form g forms) × (is_constant f ≡ is_constant g) × (f.constant ≡ g.constant)
      t = together f g e

      out : outside (value zero_form) f ≡ outside (value zero_form) g
      out = ap (λ b. if b && nat_lt f.constant 4294967296 then value zero_form + f.constant else value zero_form) t.1
          ∙ ap (λ n. if is_constant g && nat_lt n 4294967296 then value zero_form + n else value zero_form) t.2

      by : (b : Bool) → has_form f forms ≡ b → carry forms value f ≡ carry forms value g
      by true is = inside f is ∙ alike f g e ∙ sym (inside g (sym t.0 ∙ is))
      by false is = ap (λ b. if b then value f else outside (value zero_form) f) is ∙ out ∙ sym (ap (λ b. if b then value g else outside (value zero_form) g) (sym t.0 ∙ is))

    away : (f : Form) → has_form f forms ≡ false → carry forms value f ≡ outside (value zero_form) f
    away f is = ap (λ b. if b then value f else outside (value zero_form) f) is

    bounds : (f : Form) → (value zero_form ≤ outside (value zero_form) f) × (outside (value zero_form) f ≤ value zero_form + 4294967295)
    bounds f = by (is_constant f && nat_lt f.constant 4294967296) refl where
      by : (b : Bool) → (is_constant f && nat_lt f.constant 4294967296) ≡ b
          → (value zero_form ≤ (if b then value zero_form + f.constant else value zero_form)) × ((if b then value zero_form + f.constant else value zero_form) ≤ value zero_form + 4294967295)
      by true is = let k = and_parts (is_constant f) (nat_lt f.constant 4294967296) is in let l = ltb-true f.constant 4294967296 k.1 in (omega arith, omega arith)
      by false is = (omega arith, omega arith)

    constants' : (f : Form) → f.constant < 4294967296 → is_constant f ≡ true → carry forms value f ≡ carry forms value zero_form + f.constant
    constants' f small is = by (has_form f forms) refl where
      test : nat_lt f.constant 4294967296 ≡ true
      test = lt-ltb f.constant 4294967296 small

      by : (b : Bool) → has_form f forms ≡ b → carry forms value f ≡ carry forms value zero_form + f.constant
      by true in' = let a = inside f in' in let b = constants f in' is in let c = at_zero in omega arith
      by false out = away f out ∙ ap (λ b. if b && nat_lt f.constant 4294967296 then value zero_form + f.constant else value zero_form) is
          ∙ ap (λ b. if b then value zero_form + f.constant else value zero_form) test ∙ ap (λ n. n + f.constant) (sym at_zero)

    least' : (w : Word) → known_word s.next w ≡ true → carry forms value zero_form ≤ carry forms value (word_form w)
    least' w known = by (has_form (word_form w) forms) refl where
      by : (b : Bool) → has_form (word_form w) forms ≡ b → carry forms value zero_form ≤ carry forms value (word_form w)
      by true in' = let a = inside (word_form w) in' in let b = least w known in' in let c = at_zero in omega arith
      by false out = let a = away (word_form w) out in let b = bounds (word_form w) in let c = at_zero in omega arith

    largest' : (f : Form) → f.constant < 4294967296 → carry forms value f ≤ carry forms value top_form
    largest' f small = by (has_form f forms) refl where
      by : (b : Bool) → has_form f forms ≡ b → carry forms value f ≤ carry forms value top_form
      by true in' = let a = inside f in' in let b = largest f in' in let c = at_top in omega arith
      by false out = let a = away f out in let b = bounds f in let c = at_top in let e = top_far in omega arith
