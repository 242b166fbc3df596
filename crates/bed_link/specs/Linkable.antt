-- When modules can be linked: the five rules, with what breaks each in the order in which it is refused.
use Rattle.std.specs.Prelude.{◌≡◌, ℕ, ◌+◌, ◌-◌, ◌^◌, Bool, not, ◌||◌, ◌&&◌, nat_le, nat_lt, nat_eq, min, List, [], ◌++◌, map, Option, count_by}
use Rattle.bed_lang.specs.declared.word.Name.{Name}
use Rattle.bed_lang.specs.declared.module.Signature.{Signature}
use Rattle.bed_lang.specs.declared.module.Predicate.{Predicate}
use Rattle.bed_lang.specs.declared.module.Module.{Module}
use Rattle.bed_lang.specs.Same.{same_signature, same_predicate, same_name}
use Rattle.bed_table.specs.Layout.{is_among, code_length, outside_imports, address_of, import_label}
use Rattle.bed_link.specs.declared.error.LinkError.{LinkError}
use Rattle.bed_link.specs.declared.error.LinkError.TheVariants.{Twice, Unresolved, CodeTooLong, Address}
use Rattle.bed_link.specs.Parts.{signatures, predicates, imports, functions, Claim, claims, exported_claims}
use Rattle.bed_link.specs.Faults.{refusal, fault_if, each, each_after, differing}

abbrev pub module_names : List Module → List Name
module_names modules = map (λ m. m.name) modules

abbrev pub function_names : List Module → List Name
function_names modules = map (λ f. f.0.name) (functions modules)

abbrev pub exported_names : List Module → List Name
exported_names modules = map (λ c. c.name) (exported_claims modules)

abbrev pub import_names : List Module → List Name
import_names modules = map (λ i. i.0.name) (imports modules)

-- the names for which an address is given
abbrev pub given_names : List (Name × ℕ) → List Name
given_names given = map (λ g. g.0) given

abbrev pub is_one_of : List Name → Name → Bool
is_one_of names x = is_among names x.bytes

-- ---- no name twice

-- a name that one before it has
abbrev pub repeated : List Name → List LinkError
repeated names = each_after (λ before x. fault_if (is_one_of before x) (Twice x)) [] names

-- a function with a name for which an address is given
abbrev pub given_twice : (Name → Bool) → List Name → List LinkError
given_twice is_given names = each (λ x. fault_if (is_given x) (Twice x)) names

abbrev pub twice_faults : List Name → List Name → List Name → List LinkError
twice_faults modules functions given =
    repeated modules ++ (repeated functions ++ (repeated given ++ given_twice (is_one_of given) functions))

-- ---- each import is found, and each address is used

-- an import that is no exported function and has no given address
abbrev pub missing : (Name → Bool) → (Name → Bool) → List Name → List LinkError
missing is_exported is_given names = each (λ x. fault_if (not (is_exported x || is_given x)) (Unresolved x)) names

-- a name that no module imports
abbrev pub unused : (Name → Bool) → List Name → List LinkError
unused is_imported given = each (λ x. fault_if (not (is_imported x)) (Unresolved x)) given

abbrev pub unresolved_faults : List Name → List Name → List Name → List LinkError
unresolved_faults exported imported given =
    missing (is_one_of exported) (is_one_of given) imported ++ unused (is_one_of imported) given

-- ---- one tree for each name of a signature and a predicate, and one signature for each function and import

abbrev pub same_signature_part : Signature × ℕ → Signature × ℕ → Bool
same_signature_part a b = same_signature a.0 b.0

abbrev pub same_predicate_part : Predicate × ℕ → Predicate × ℕ → Bool
same_predicate_part a b = same_predicate a.0 b.0

abbrev pub same_claim : Claim → Claim → Bool
same_claim a b = same_name a.signature b.signature

-- The exported functions come first and their names differ, by the first rule: so an import alone can differ, from the function of its
-- name, or else from the first import of it.
abbrev pub claim_faults : List Claim → List LinkError
claim_faults = differing (λ c. c.name) (λ c. c.«module») same_claim

abbrev pub differs_faults : List Module → List LinkError
differs_faults modules =
    differing (λ s. s.0.name) (λ s. s.1) same_signature_part (signatures modules)
    ++ (differing (λ p. p.0.name) (λ p. p.1) same_predicate_part (predicates modules)
    ++ claim_faults (claims modules))

-- ---- the code has at most 1,048,576 bytes and ends at or below 2^32

abbrev pub is_too_long : ℕ → ℕ → Bool
is_too_long base length = nat_lt 1048576 length || nat_lt 4294967296 (base + length)

abbrev pub length_faults : ℕ → ℕ → List LinkError
length_faults base length = fault_if (is_too_long base length) (CodeTooLong (min length (2 ^ 64 - 1)))

-- ---- each outside address is outside the code, and no other import's

-- a name with the first address that is given for it
abbrev pub with_given : List (Name × ℕ) → Name → Name × ℕ
with_given given x = (x, address_of (map import_label given) x.bytes)

-- the imports that no module exports, with the addresses that are given for them
abbrev pub outside : List Module → List (Name × ℕ) → List (Name × ℕ)
outside modules given = map (with_given given) (outside_imports modules)

abbrev pub lies_in : ℕ → ℕ → ℕ → Bool
lies_in base length address = nat_le base address && nat_lt address (base + length)

abbrev pub is_shared : List (Name × ℕ) → ℕ → Bool
is_shared outside address = nat_lt 1 (count_by (λ o. nat_eq o.1 address) outside)

abbrev pub address_fault : ℕ → ℕ → List (Name × ℕ) → Name × ℕ → List LinkError
address_fault base length outside o = fault_if (lies_in base length o.1 || is_shared outside o.1) (Address o.0)

abbrev pub address_faults : ℕ → ℕ → List (Name × ℕ) → List LinkError
address_faults base length outside = each (address_fault base length outside) outside

-- ---- all

-- what breaks a rule before the last
abbrev pub before_faults : List Module → List (Name × ℕ) → ℕ → List LinkError
before_faults modules given base =
    twice_faults (module_names modules) (function_names modules) (given_names given)
    ++ (unresolved_faults (exported_names modules) (import_names modules) (given_names given)
    ++ (differs_faults modules ++ length_faults base (code_length modules)))

abbrev pub faults : List Module → List (Name × ℕ) → ℕ → List LinkError
faults modules given base = before_faults modules given base ++ address_faults base (code_length modules) (outside modules given)

-- modules can be linked with these addresses and base
abbrev pub IsLinkable : List Module → List (Name × ℕ) → ℕ → Type 0
IsLinkable modules given base = faults modules given base ≡ []

-- why they can't be
abbrev pub link_refusal : List Module → List (Name × ℕ) → ℕ → Option LinkError
link_refusal modules given base = refusal (faults modules given base)
