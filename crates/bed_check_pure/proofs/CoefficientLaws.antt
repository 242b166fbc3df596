-- Keys are the same exactly where their texts are.
use Rattle.std.proofs.Common.{◌≡◌, Bool, true, false, refl, sym}
use Rattle.std.specs.Str.{bytes_eq}
use Rattle.std.specs.Cmp.Lexicographic.{bytes_decides}
use Rattle.bed_lang.specs.declared.form.Key.{Key}
use Rattle.bed_lang.specs.Keys.{same_key, key_text}
use Rattle.bed_check_pure.proofs.SolveLaws.{same_key-text, text-same_key}

alike : (t u : Bool) → (t ≡ true → u ≡ true) → (u ≡ true → t ≡ true) → t ≡ u
alike true true f g = refl
alike true false f g = absurd (let e = f refl in cc)
alike false true f g = absurd (let e = g refl in cc)
alike false false f g = refl

pub same_key_is : (a b : Key) → bytes_eq (key_text b) (key_text a) ≡ same_key a b
same_key_is a b =
    alike (bytes_eq (key_text b) (key_text a)) (same_key a b)
    (λ e. text-same_key a b (sym ((bytes_decides (key_text b) (key_text a)).0 e)))
    (λ e. (bytes_decides (key_text b) (key_text a)).1 (sym (same_key-text a b e)))
