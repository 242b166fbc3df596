-- The rule label is sound: the code map has the signature of each label at its address.
use Rattle.std.proofs.Common.{◌≡◌, ℕ, ◌+◌, ◌*◌, Bool, true, false, ◌==◌, if◌then◌else◌, List, [], ◌∷◌, Option, Some, None, refl, ◌∙◌, ap, subst, arith}
use Rattle.std.specs.Cmp.{unsigned_Decides}
use Rattle.std.specs.Cmp.Lexicographic.{bytes_decides}
use Rattle.bed_machine.specs.Memory.{Memory}
use Rattle.bed_lang.specs.declared.word.Name.{Name}
use Rattle.bed_lang.specs.declared.word.Word.{Word}
use Rattle.bed_lang.specs.declared.form.Key.{Key}
use Rattle.bed_lang.specs.declared.form.Key.TheVariants as key
use Rattle.bed_lang.specs.declared.form.Form.{Form}
use Rattle.bed_lang.specs.declared.logic.Pure.{Pure}
use Rattle.bed_lang.specs.declared.logic.Pure.TheVariants.{Code}
use Rattle.bed_lang.specs.Numbers.{wrap}
use Rattle.bed_lang.specs.Values.{Values, value}
use Rattle.bed_lang.specs.Forms.{Part, word_form}
use Rattle.bed_lang.specs.Coefficients.{key_value, parts_value, form_value}
use Rattle.bed_lang.specs.Lookups.{label_signature}
use Rattle.bed_forms.proofs.FormValues.{form-value}
use Rattle.bed_sat.specs.Facts.{IsTrueFact}
use Rattle.bed_sat.specs.Assertions.{World}
use Rattle.bed_sat.specs.Valid.{LabelsFit}
use Rattle.bed_deriv.specs.declared.derivation.DArg.{DArg}
use Rattle.bed_deriv.specs.declared.state.Sequent.{Sequent}
use Rattle.bed_deriv.specs.PureRules.{key_label, lone_label, form_label, is_name, has_signature, is_its_signature, label}
use Rattle.bed_check_pure.proofs.CheckLaws.{IsSoundCheck}
use Rattle.bed_check_pure.proofs.RuleLaws.{counted, goal_true}

module _ (labels : List ℕ → ℕ) (ν : Values) where
  -- a value is a label's address, where there is a label
  abbrev IsAddress : Option Name → ℕ → Type 0
  IsAddress None v = Unit {0}
  IsAddress (Some f) v = v ≡ wrap (labels f.bytes)

  key_address : (k : Key) → IsAddress (key_label k) (wrap (key_value labels ν k))
  key_address (key.Label f) = refl
  key_address (key.Var x) = tt

  lone_address : (c : ℕ) (ps : List Part) → c ≡ 0 → IsAddress (lone_label ps) (wrap (c + parts_value (key_value labels ν) ps))
  lone_address c [] z = tt
  lone_address c (p ∷ []) z = by (p.1 == 1) (unsigned_Decides p.1 1).0
    where
      by : (b : Bool) → (b ≡ true → p.1 ≡ 1) → IsAddress (if b then key_label p.0 else None) (wrap (c + parts_value (key_value labels ν) (p ∷ [])))
      by true one =
          let e = one refl in
          let k : wrap (key_value labels ν p.0) ≡ wrap (c + wrap (p.1 * key_value labels ν p.0 + 0)) = rw (e, z) (omega arith) in
          subst (λ v. IsAddress (key_label p.0) v) k (key_address p.0)
      by false one = tt
  lone_address c (p ∷ q ∷ ps) z = tt

  form_address : (f : Form) → IsAddress (form_label f) (form_value labels ν f)
  form_address f = by (f.constant == 0) (unsigned_Decides f.constant 0).0
    where
      by : (b : Bool) → (b ≡ true → f.constant ≡ 0) → IsAddress (if b then lone_label f.parts else None) (form_value labels ν f)
      by true none = lone_address f.constant f.parts (none refl)
      by false none = tt

  -- a word that just is a label has its address
  label_address : (a : Word) → IsAddress (form_label (word_form a)) (value labels ν a)
  label_address a = subst (λ v. IsAddress (form_label (word_form a)) v) (form-value labels ν a) (form_address (word_form a))

module _ (w : World) (ν : Values) (h : Memory) (fits : LabelsFit w) where
  has_name : (f : List ℕ) (name : Name) (found : Option Name) → label_signature w.decls f ≡ found → is_name found name ≡ true
      → w.codes (wrap (w.labels f)) ≡ Some name.bytes
  has_name f name None is same = absurd (cc)
  has_name f name (Some x) is same = fits f x is ∙ ap Some ((bytes_decides x.bytes name.bytes).0 same)

  has_code : (v : ℕ) (name : Name) (f : Option Name) → IsAddress w.labels ν f v → has_signature w.decls f name ≡ true → w.codes v ≡ Some name.bytes
  has_code v name None at is = absurd (cc)
  has_code v name (Some f) at is = ap w.codes at ∙ has_name f.bytes name (label_signature w.decls f.bytes) refl is

  its_code : (p : Pure) → is_its_signature w.decls p ≡ true → IsTrueFact w.codes w.labels ν p
  its_code (Code a name) is = has_code (value w.labels ν a) name (form_label (word_form a)) (label_address w.labels ν a) is
  its_code _ is = absurd (cc)

  pub label_sound : (q : Sequent) (args : List DArg) (n : ℕ) → IsSoundCheck w ν h q n (label w.decls (Some q.goal) args n)
  label_sound q args n count g is its = (counted args 0 n 0 count, λ above holds. goal_true w ν h q g is (its_code g its))
