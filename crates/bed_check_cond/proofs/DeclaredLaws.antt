-- What is declared holds no fresh variable.
use Rattle.std.proofs.Common.{◌≡◌, Bool, true, false, IsTrue, cond, List, [], ◌∷◌, Option, Some, None, subst}
use Rattle.std.specs.Prelude.{find, bytes_eq}
use Rattle.std.proofs.lemmas.Bool.{and_parts}
use Rattle.bed_machine.proofs.WordLaws.{some_same}
use Rattle.bed_lang.specs.declared.word.Name.{Name}
use Rattle.bed_lang.specs.declared.module.Signature.{Signature}
use Rattle.bed_lang.specs.declared.condition.Decls.{Decls}
use Rattle.bed_lang.specs.Lookups.{named_signature}
use Rattle.bed_deriv.specs.Fresh.{every, unfresh_signature, AreUnfresh}

-- what is found passes what all pass
pub found_passes : {A : Type 0} (f p : A → Bool) (xs : List A) (x : A) → find p xs ≡ Some x → IsTrue (every f xs) → IsTrue (f x)
found_passes f p [] x e all = absurd cc
found_passes f p (y ∷ xs) x e all =
    let k = and_parts (f y) (every f xs) all in
    by (p y) e k.0 (λ d. found_passes f p xs x d k.1)
  where
    by : (b : Bool) → cond b (Some y) (find p xs) ≡ Some x → IsTrue (f y) → (find p xs ≡ Some x → IsTrue (f x)) → IsTrue (f x)
    by true e one more = subst (λ z. IsTrue (f z)) (some_same e) one
    by false e one more = more e

pub signature_unfresh : (d : Decls) (o : Option Name) (S : Signature) → AreUnfresh d → named_signature d o ≡ Some S → IsTrue (unfresh_signature S)
signature_unfresh d None S unfresh e = absurd cc
signature_unfresh d (Some x) S unfresh e = found_passes unfresh_signature (λ T. bytes_eq T.name.bytes x.bytes) d.signatures S e unfresh.signatures
