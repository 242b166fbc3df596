-- What a name is declared as: of several declarations of one name the first.
use Rattle.std.specs.Prelude.{ℕ, Option, Some, None, List, length, find, bytes_eq}
use Rattle.bed_lang.specs.declared.word.Name.{Name}
use Rattle.bed_lang.specs.declared.module.Signature.{Signature}
use Rattle.bed_lang.specs.declared.module.Predicate.{Predicate}
use Rattle.bed_lang.specs.declared.condition.Decls.{Decls}

-- the signature, and the predicate, of a name
abbrev pub first_signature : List Signature → List ℕ → Option Signature
first_signature signatures x = find (λ S. bytes_eq S.name.bytes x) signatures

abbrev pub signature_named : Decls → List ℕ → Option Signature
signature_named d x = first_signature d.signatures x

abbrev pub predicate_named : Decls → List ℕ → Option Predicate
predicate_named d x = find (λ p. bytes_eq p.name.bytes x) d.predicates

-- the name of a label's signature
abbrev pub second_of : Option (Name × Name) → Option Name
second_of None = None
second_of (Some p) = Some p.1

abbrev pub label_signature : Decls → List ℕ → Option Name
label_signature d f = second_of (find (λ l. bytes_eq l.0.bytes f) d.labels)

-- the signature of a function or an import, where both are declared
abbrev pub named_signature : Decls → Option Name → Option Signature
named_signature d None = None
named_signature d (Some x) = signature_named d x.bytes

abbrev pub function_signature : Decls → Name → Option Signature
function_signature d f = named_signature d (label_signature d f.bytes)

abbrev pub count_of_params : Option Signature → ℕ
count_of_params None = 0
count_of_params (Some S) = length S.params
