-- The modules that are built so far: signatures that promise one number or one argument, and functions that return one.
use Rattle.std.specs.Prelude.{ℕ, ◌+◌, Bool, true, false, ◌&&◌, not, nat_eq, nat_le, List, [], ◌∷◌, Option, Some, None, option_and_then, if◌then◌else◌, ◌==◌}
use Rattle.std.specs.List.{list_any, list_all}
use Rattle.bed_lang.specs.declared.word.Name.{Name}
use Rattle.bed_lang.specs.declared.word.Var.TheVariants as var
use Rattle.bed_lang.specs.declared.word.Word.{Word, out-Word}
use Rattle.bed_lang.specs.declared.word.Word.TheOpen.{Word-F}
use Rattle.bed_lang.specs.declared.logic.Pure.{Pure}
use Rattle.bed_lang.specs.declared.logic.Pure.TheVariants as pure
use Rattle.bed_lang.specs.declared.logic.Term.{Term}
use Rattle.bed_lang.specs.declared.logic.Term.TheVariants as term
use Rattle.bed_lang.specs.declared.logic.Assertion.{Assertion}
use Rattle.bed_lang.specs.declared.module.Operand.{Operand}
use Rattle.bed_lang.specs.declared.module.Operand.TheVariants as operand
use Rattle.bed_lang.specs.declared.module.Signature.{Signature}
use Rattle.bed_lang.specs.declared.module.Function.{Function}
use Rattle.bed_lang.specs.declared.module.Module.{Module}
use Rattle.bed_lang.specs.declared.statement.Stmt.{Stmt}
use Rattle.bed_lang.specs.declared.statement.StmtKind.{StmtKind, StmtKind-F, out-StmtKind}
use Rattle.bed_lang.specs.Same.{same_name}
use Rattle.bed_lang.specs.Lookups.{first_signature}

-- the one element of a list of length 1
abbrev pub only : {A : Type 0} → List A → Option A
only [] = None
only (x ∷ []) = Some x
only (x ∷ y ∷ xs) = None

-- one of the names has the bytes of this one
abbrev pub has_name : List Name → Name → Bool
has_name names x = list_any (λ y. same_name y x) names

-- no name has the bytes of a later one
abbrev pub all_differ : List Name → Bool
all_differ [] = true
all_differ (x ∷ names) = not (has_name names x) && all_differ names

abbrev pub is_empty : {A : Type 0} → List A → Bool
is_empty [] = true
is_empty (x ∷ xs) = false

-- just `emp`
abbrev pub is_emp : Option Term → Bool
is_emp (Some term.Emp) = true
is_emp _ = false

abbrev pub is_empty_memory : Assertion → Bool
is_empty_memory a = is_empty a.binders && is_emp (only a.terms)

abbrev pub is_answer : Word-F Word → Bool
is_answer (Word-F.Var (var.Answer at)) = true
is_answer _ = false

abbrev pub equal_to_answer : Pure → Option Word
equal_to_answer (pure.Equal left right) = if is_answer (out-Word left) then Some right else None
equal_to_answer _ = None

-- the word w of a term `[result = w]`
abbrev pub answer_of : Term → Option Word
answer_of (term.Pure fact) = equal_to_answer fact
answer_of _ = None

-- the word that a signature promises as the answer, where its postcondition is one such term
abbrev pub promised_word : Signature → Option Word
promised_word s = option_and_then answer_of (only s.post.terms)

-- a number, or one of the parameters
abbrev pub is_value_layer : List Name → Word-F Word → Bool
is_value_layer params (Word-F.Number n) = nat_le n 4294967295
is_value_layer params (Word-F.Var (var.Named x)) = has_name params x
is_value_layer params _ = false

abbrev pub is_value : List Name → Option Word → Bool
is_value params None = false
is_value params (Some w) = is_value_layer params (out-Word w)

-- a signature without `reserving` and `for`, with precondition `emp` and postcondition `[result = a]`, a being a number or one
-- of the parameters, which differ
abbrev pub signature_is_built : Signature → Bool
signature_is_built s =
    nat_eq s.reserve 0 && (is_empty s.logical && (all_differ s.params && (is_empty_memory s.pre
    && (is_empty s.post.binders && is_value s.params (promised_word s)))))

abbrev pub returned_of : StmtKind-F StmtKind Stmt → Option Operand
returned_of (StmtKind-F.Return a) = Some a
returned_of _ = None

-- the operand that a function returns, where its body is one `return`
abbrev pub returned_operand : Function → Option Operand
returned_operand f = option_and_then (λ (s : Stmt). returned_of (out-StmtKind s.kind)) (only f.body)

abbrev pub is_number_or_local : Option Operand → Bool
is_number_or_local (Some (operand.Number n)) = true
is_number_or_local (Some (operand.Local x)) = true
is_number_or_local _ = false

-- a function without further locals whose body is one `return a;`, a being a number or a local
abbrev pub function_is_built : Function → Bool
function_is_built f = is_empty f.locals && is_number_or_local (returned_operand f)

-- a module of such signatures and functions alone
abbrev pub module_is_built : Module → Bool
module_is_built m =
    is_empty m.predicates && (is_empty m.imports && (list_all signature_is_built m.signatures && list_all function_is_built m.functions))

abbrev pub says_same_layer : Word-F Word → Operand → Bool
says_same_layer (Word-F.Number m) (operand.Number n) = m == n
says_same_layer (Word-F.Var (var.Named x)) (operand.Local y) = same_name x y
says_same_layer _ _ = false

-- the word and the operand are the same number, or names of the same bytes
abbrev pub says_same : Word → Operand → Bool
says_same w = says_same_layer (out-Word w)

abbrev pub says_both : Option Word → Option Operand → Bool
says_both (Some w) (Some a) = says_same w a
says_both _ _ = false

-- the function returns the number or the parameter that its signature promises
abbrev pub keeps_promise : List Signature → Function → Bool
keeps_promise signatures f =
    says_both (option_and_then promised_word (first_signature signatures f.signature.bytes)) (returned_operand f)

-- the number, counted from this one, of the first function that doesn't. Each function has one condition, that of its
-- `return`, so this is the number of the first condition that doesn't hold
abbrev pub first_broken : ℕ → List Signature → List Function → Option ℕ
first_broken k signatures [] = None
first_broken k signatures (f ∷ fs) = if keeps_promise signatures f then first_broken (k + 1) signatures fs else Some k

abbrev pub broken_condition : Module → Option ℕ
broken_condition m = first_broken 1 m.signatures m.functions
