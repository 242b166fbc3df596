-- Keys are the same exactly where their texts are.
use Rattle.std.proofs.Common.{◌≡◌, Bool, true, false, refl, sym, ◌∙◌, ap}
use Rattle.std.specs.Str.{bytes_eq}
use Rattle.std.specs.Cmp.Lexicographic.{bytes_decides}
use Rattle.bed_lang.specs.declared.form.Key.{Key}
use Rattle.bed_lang.specs.Keys.{same_key, key_text}
use Rattle.bed_forms.proofs.KeyLaws.{text-bare}
use Rattle.bed_forms.proofs.SameForms.{same_key-decides, text-of_bare}

alike : (t u : Bool) → (t ≡ true → u ≡ true) → (u ≡ true → t ≡ true) → t ≡ u
alike true true f g = refl
alike true false f g = absurd (let e = f refl in cc)
alike false true f g = absurd (let e = g refl in cc)
alike false false f g = refl

pub same_key_is : (a b : Key) → bytes_eq (key_text b) (key_text a) ≡ same_key a b
same_key_is a b =
    alike (bytes_eq (key_text b) (key_text a)) (same_key a b)
    (λ e. (same_key-decides a b).1 (text-bare a b (sym ((bytes_decides (key_text b) (key_text a)).0 e))))
    (λ e. (bytes_decides (key_text b) (key_text a)).1 (sym (sym (text-of_bare a) ∙ ap key_text ((same_key-decides a b).0 e) ∙ text-of_bare b)))
