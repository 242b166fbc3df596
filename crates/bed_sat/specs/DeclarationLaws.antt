-- What is declared by one module and by all: statements of laws.
use Rattle.std.specs.Prelude.{ℕ, IsTrue, Option, List, Contains}
use Rattle.bed_machine.specs.Memory.{Memory}
use Rattle.bed_lang.specs.declared.logic.Assertion.{Assertion}
use Rattle.bed_lang.specs.declared.module.Module.{Module}
use Rattle.bed_lang.specs.declared.condition.Decls.{Decls}
use Rattle.bed_lang.specs.declared.condition.Cond.{Cond}
use Rattle.bed_lang.specs.Declarations.{declarations, all_declarations}
use Rattle.bed_lang.specs.Values.{Values}
use Rattle.bed_sat.specs.Assertions.{Holds}
use Rattle.bed_sat.specs.Conditions.{conditions}
use Rattle.bed_sat.specs.Valid.{IsValid}
use Rattle.bed_sat.specs.Declarations.{KeepsPredicates, Extends, IsConsistent, assertion_known, signatures_known, predicates_known, bodies_known, module_known}

-- what holds under some declarations holds under more
abbrev pub MoreIsDeclared : Type 0
MoreIsDeclared =
    (few more : Decls) (codes : ℕ → Option (List ℕ)) (labels : List ℕ → ℕ) → KeepsPredicates few more
    → (ν : Values) (h : Memory) (A : Assertion)
    → Holds (record { decls = few; codes = codes; labels = labels }) ν h A
    → Holds (record { decls = more; codes = codes; labels = labels }) ν h A

-- and what holds under more holds under some, where these have each predicate that they and the assertion name
abbrev pub FewAreEnough : Type 0
FewAreEnough =
    (few more : Decls) (codes : ℕ → Option (List ℕ)) (labels : List ℕ → ℕ) → KeepsPredicates few more
    → IsTrue (predicates_known few)
    → (ν : Values) (h : Memory) (A : Assertion) → IsTrue (assertion_known few A)
    → Holds (record { decls = more; codes = codes; labels = labels }) ν h A
    → Holds (record { decls = few; codes = codes; labels = labels }) ν h A

-- a condition that is valid under some declarations, which have each predicate that they and its start name, is valid under more
abbrev pub ConditionsStayValid : Type 0
ConditionsStayValid =
    (few more : Decls) (c : Cond) → Extends few more → IsTrue (predicates_known few) → IsTrue (signatures_known few)
    → IsTrue (assertion_known few c.start) → IsValid few c → IsValid more c

-- all modules declare what each of them does, where what they declare is consistent
abbrev pub ModulesAreExtended : Type 0
ModulesAreExtended =
    (modules : List Module) (m : Module) → Contains modules m → IsConsistent (all_declarations modules)
    → Extends (declarations m) (all_declarations modules)

-- the start of each condition of a module names only predicates that the module declares, where its signatures and bodies do
abbrev pub StartsAreKnown : Type 0
StartsAreKnown =
    (m : Module) → IsTrue (signatures_known (declarations m)) → IsTrue (bodies_known (declarations m) m)
    → (c : Cond) → Contains (conditions m) c → IsTrue (assertion_known (declarations m) c.start)

-- so a condition of a module that is valid under what the module declares is valid under what all modules declare
abbrev pub ValidAmongAll : Type 0
ValidAmongAll =
    (modules : List Module) (m : Module) (c : Cond) → Contains modules m → IsConsistent (all_declarations modules)
    → IsTrue (module_known m) → Contains (conditions m) c → IsValid (declarations m) c → IsValid (all_declarations modules) c
