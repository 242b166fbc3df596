-- Words and sequences that are written anew from their forms have the values of these.
use Rattle.std.proofs.Common.{◌≡◌, ℕ, ◌+◌, ◌*◌, Bool, true, false, ◌==◌, if◌then◌else◌, List, [], ◌∷◌, ◌++◌, refl, ap, ◌∙◌, arith}
use Rattle.std.specs.Cmp.{unsigned_Decides}
use Rattle.std.proofs.lemmas.Nat.{mul-mod_second}
use Rattle.bed_lang.specs.declared.word.Word.{Word, Number, Times, Add}
use Rattle.bed_lang.specs.declared.word.Seq.{Var as SeqVar}
use Rattle.bed_lang.specs.declared.form.Key.{Key}
use Rattle.bed_lang.specs.declared.form.Key.TheVariants as key
use Rattle.bed_lang.specs.declared.form.Form.{Form}
use Rattle.bed_lang.specs.declared.form.Piece.{Piece}
use Rattle.bed_lang.specs.declared.form.Piece.TheVariants.{Element, Sequence}
use Rattle.bed_lang.specs.Numbers.{wrap}
use Rattle.bed_lang.specs.Values.{Values, value, list_value}
use Rattle.bed_lang.specs.Forms.{Part}
use Rattle.bed_lang.specs.Coefficients.{key_value, parts_value, form_value, pieces_value}
use Rattle.bed_lang.proofs.ValueLaws.{value-Number, value-Var, value-Label, value-Add, value-Times, value-small, list_value-Var, list_value-Nil, list_value-Cons, list_value-App}
use Rattle.bed_forms.specs.Rebuilt.{key_word, part_word, sum_from, parts_word, form_word, pieces_seq}

module _ (labels : List ℕ → ℕ) (ν : Values) where
  abbrev V : Word → ℕ
  V = value labels ν

  abbrev K : Key → ℕ
  K = key_value labels ν

  abbrev S : List Part → ℕ
  S = parts_value K

  key_word-value : (k : Key) → V (key_word k) ≡ wrap (K k)
  key_word-value (key.Var x) = value-Var labels ν x
  key_word-value (key.Label f) = value-Label labels ν f

  part_word-value : (p : Part) → V (part_word p) ≡ wrap (p.1 * K p.0)
  part_word-value p = by (p.1 == 1) (unsigned_Decides p.1 1).0
    where
      by : (b : Bool) → (b ≡ true → p.1 ≡ 1) → V (if b then key_word p.0 else Times p.1 (key_word p.0)) ≡ wrap (p.1 * K p.0)
      by true one = let k = key_word-value p.0 in rw (one refl) (omega arith)
      by false one =
          let k = key_word-value p.0 in
          let t = value-Times labels ν p.1 (key_word p.0) in
          let m = mul-mod_second p.1 (K p.0) 4294967296 in
          t ∙ ap (λ z. wrap (p.1 * z)) k ∙ m

  sum_from-value : (ps : List Part) (x : Word) → V (sum_from x ps) ≡ wrap (V x + S ps)
  sum_from-value [] x = let l = value-small labels ν x in omega arith
  sum_from-value (p ∷ ps) x =
      let a = value-Add labels ν x (part_word p) in
      let b = part_word-value p in
      sum_from-value ps (Add x (part_word p)) ∙ (omega arith)

  parts_word-value : (ps : List Part) → V (parts_word ps) ≡ S ps
  parts_word-value [] = value-Number labels ν 0
  parts_word-value (p ∷ ps) = let b = part_word-value p in sum_from-value ps (part_word p) ∙ (omega arith)

  -- the word of a form
  pub form_word-value : (f : Form) → V (form_word f) ≡ form_value labels ν f
  form_word-value f = by (f.constant == 0) (unsigned_Decides f.constant 0).0
    where
      by : (b : Bool) → (b ≡ true → f.constant ≡ 0) → V (if b then parts_word f.parts else sum_from (Number f.constant) f.parts) ≡ wrap (f.constant + S f.parts)
      by true none =
          let z = none refl in
          let p = parts_word-value f.parts in
          let l = value-small labels ν (parts_word f.parts) in omega arith
      by false none = let n = value-Number labels ν f.constant in sum_from-value f.parts (Number f.constant) ∙ (omega arith)

  -- the sequence of pieces
  pub pieces_seq-value : (ps : List Piece) → list_value labels ν (pieces_seq ps) ≡ pieces_value labels ν ps
  pieces_seq-value [] = list_value-Nil labels ν
  pieces_seq-value (Element f ∷ ps) =
      let one = form_word-value f in
      let more = pieces_seq-value ps in
      list_value-Cons labels ν (form_word f) (pieces_seq ps) ∙ (λ i. one i ∷ more i)
  pieces_seq-value (Sequence x ∷ ps) =
      let one = list_value-Var labels ν x in
      let more = pieces_seq-value ps in
      list_value-App labels ν (SeqVar x) (pieces_seq ps) ∙ (λ i. one i ++ more i)
