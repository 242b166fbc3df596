-- The faults of a module.
--
-- Signatures, predicates, and functions with imports are three name spaces; the prelude's predicates count as declared first.
-- Any item may name one that is declared later. In a signature the parameters, which are words, and the logical variables are
-- in scope, and `result` in the postcondition; in a predicate its parameters; labels and `old` in neither. In a function the
-- arguments, which are its signature's parameters, the signature's logical variables and the locals are in scope, and `old` of
-- the arguments, and the labels. Where a function's signature is unknown there is no StackRoom for it.
--
-- FallsOff: a function's body falls through; at its closing brace.
-- StackRoom: a function has more locals beside the arguments than its signature reserves words; at the function's name.
use Rattle.std.specs.Prelude.{ℕ, ◌-◌, Bool, true, false, nat_lt, List, [], ◌++◌, map, length, Option, None, Some}
use Rattle.bed_lang.specs.declared.word.Name.{Name}
use Rattle.bed_lang.specs.declared.logic.Bind.{Bind}
use Rattle.bed_lang.specs.declared.logic.Assertion.{Assertion}
use Rattle.bed_lang.specs.declared.module.Signature.{Signature}
use Rattle.bed_lang.specs.declared.module.Predicate.{Predicate}
use Rattle.bed_lang.specs.declared.module.Import.{Import}
use Rattle.bed_lang.specs.declared.module.Function.{Function}
use Rattle.bed_lang.specs.declared.module.Module.{Module}
use Rattle.bed_lang.specs.declared.condition.Decls.{Decls}
use Rattle.bed_names.specs.declared.error.NameError.{NameError}
use Rattle.bed_names.specs.declared.error.NameError.TheVariants.{FallsOff, StackRoom}
use Rattle.bed_names.specs.Faults.{fault_if, all_faults}
use Rattle.bed_lang.specs.Declarations.{declarations}
use Rattle.bed_lang.specs.Lookups.{signature_named}
use Rattle.bed_names.specs.Names.{words}
use Rattle.bed_names.specs.Terms.{Visible, twice_faults, bind_names, assertion_faults, signature_name_faults}
use Rattle.bed_names.specs.Statements.{Surroundings, body_falls, body_faults}

-- the same declarations without labels
abbrev pub without_labels : Decls → Decls
without_labels d = record d { labels = [] }

-- what is in scope beside labels and `old`
abbrev pub plain : Decls → List Bind → Bool → Visible
plain d names answer = record { decls = without_labels d; names = names; olds = []; answer = answer }

abbrev pub signature_names : Signature → List Bind
signature_names s = words s.params ++ s.logical

abbrev pub signature_faults : Decls → Signature → List NameError
signature_faults d s =
    twice_faults [] s.params
    ++ (twice_faults (words s.params) (bind_names s.logical)
    ++ (assertion_faults (plain d (signature_names s) false) s.pre ++ assertion_faults (plain d (signature_names s) true) s.post))

abbrev pub cases_faults : Visible → List Assertion → List NameError
cases_faults v cases = all_faults (assertion_faults v) cases

abbrev pub predicate_faults : Decls → Predicate → List NameError
predicate_faults d p = twice_faults [] (bind_names p.params) ++ cases_faults (plain d p.params false) p.cases

abbrev pub params_of : Option Signature → List Name
params_of None = []
params_of (Some s) = s.params

abbrev pub logical_of : Option Signature → List Bind
logical_of None = []
logical_of (Some s) = s.logical

-- the words of a function's call area: those reserved that no local takes
abbrev pub area_of : Option Signature → List Name → Option ℕ
area_of None locals = None
area_of (Some s) locals = Some (s.reserve - length locals)

abbrev pub locals_room_faults : Option Signature → Function → List NameError
locals_room_faults None f = []
locals_room_faults (Some s) f = fault_if (nat_lt s.reserve (length f.locals)) (StackRoom f.name.at (length f.locals) s.reserve)

-- what a function sees, with these arguments, logical variables and further locals
abbrev pub visible_inside : Decls → List Name → List Bind → List Name → Visible
visible_inside d params logical locals = record {
  decls = d;
  names = words params ++ (logical ++ words locals);
  olds = params;
  answer = false;
}

abbrev pub function_visible : Decls → Option Signature → Function → Visible
function_visible d s f = visible_inside d (params_of s) (logical_of s) f.locals

abbrev pub inside : Decls → Option Signature → Function → Surroundings
inside d s f = record {
  visible = function_visible d s f;
  locals = params_of s ++ f.locals;
  area = area_of s f.locals;
}

abbrev pub faults_under : Decls → Option Signature → Function → List NameError
faults_under d s f =
    locals_room_faults s f
    ++ (twice_faults (words (params_of s) ++ logical_of s) f.locals
    ++ (body_faults (inside d s f) f.body ++ fault_if (body_falls (inside d s f) f.body) (FallsOff f.end)))

abbrev pub function_faults : Decls → Function → List NameError
function_faults d f =
    signature_name_faults (plain d [] false) f.signature ++ faults_under d (signature_named d f.signature.bytes) f

abbrev pub import_faults : Decls → Import → List NameError
import_faults d i = signature_name_faults (plain d [] false) i.signature

-- the names that are declared again: of signatures, of predicates, of imports and functions
abbrev pub name_spaces_faults : Decls → List NameError
name_spaces_faults d =
    twice_faults [] (map (λ s. s.name) d.signatures)
    ++ (twice_faults [] (map (λ p. p.name) d.predicates) ++ twice_faults [] (map (λ l. l.0) d.labels))

-- the faults inside the items of a module
abbrev pub items_faults : Decls → Module → List NameError
items_faults d m =
    all_faults (signature_faults d) m.signatures
    ++ (all_faults (predicate_faults d) m.predicates
    ++ (all_faults (import_faults d) m.imports ++ all_faults (function_faults d) m.functions))

-- all faults of a module
abbrev pub faults : Module → List NameError
faults m = name_spaces_faults (declarations m) ++ items_faults (declarations m) m
