-- What modules declare. The prelude's two predicates count as declared first in every module.
use Rattle.std.specs.Prelude.{List, [], ◌∷◌, ◌++◌, map}
use Rattle.bed_lang.specs.declared.word.Name.{Name}
use Rattle.bed_lang.specs.declared.module.Signature.{Signature}
use Rattle.bed_lang.specs.declared.module.Predicate.{Predicate}
use Rattle.bed_lang.specs.declared.module.Import.{Import}
use Rattle.bed_lang.specs.declared.module.Module.{Module}
use Rattle.bed_lang.specs.declared.condition.Decls.{Decls}
use Rattle.bed_lang.specs.Prelude.{prelude}

-- each import and function with the name of its signature: they are one name space, the imports first
abbrev pub labels_of : Module → List (Name × Name)
labels_of m = map (λ i. (i.name, i.signature)) m.imports ++ map (λ f. (f.name, f.signature)) m.functions

-- what a module declares
abbrev pub declarations : Module → Decls
declarations m = record {
  signatures = m.signatures;
  predicates = prelude ++ m.predicates;
  labels = labels_of m;
}

-- the signatures, predicates, labels and imports of all modules, in their order
abbrev pub all_signatures : List Module → List Signature
all_signatures [] = []
all_signatures (m ∷ ms) = m.signatures ++ all_signatures ms

abbrev pub all_predicates : List Module → List Predicate
all_predicates [] = []
all_predicates (m ∷ ms) = m.predicates ++ all_predicates ms

abbrev pub all_labels : List Module → List (Name × Name)
all_labels [] = []
all_labels (m ∷ ms) = labels_of m ++ all_labels ms

abbrev pub all_imports : List Module → List Import
all_imports [] = []
all_imports (m ∷ ms) = m.imports ++ all_imports ms

-- what all modules declare together
abbrev pub all_declarations : List Module → Decls
all_declarations ms = record {
  signatures = all_signatures ms;
  predicates = prelude ++ all_predicates ms;
  labels = all_labels ms;
}
