-- The lines of conditions, and signatures and predicates on one line.
use Rattle.std.specs.Prelude.{ℕ, Option, Some, None, List, [], ◌∷◌, ◌++◌, codes}
use Rattle.std.specs.Fmt.{decimal}
use Rattle.bed_lang.specs.declared.word.Name.{Name}
use Rattle.bed_lang.specs.declared.logic.Bind.{Bind}
use Rattle.bed_lang.specs.declared.module.Action.{Action}
use Rattle.bed_lang.specs.declared.module.Action.TheVariants as action
use Rattle.bed_lang.specs.declared.module.Operand.{Operand}
use Rattle.bed_lang.specs.declared.module.Signature.{Signature}
use Rattle.bed_lang.specs.declared.module.Predicate.{Predicate}
use Rattle.bed_lang.specs.declared.condition.Goal.{Goal}
use Rattle.bed_lang.specs.declared.condition.Goal.TheVariants as goal
use Rattle.bed_lang.specs.declared.condition.Cond.{Cond}
use Rattle.bed_lang.specs.declared.condition.Decls.{Decls}
use Rattle.bed_lang.specs.Lookups.{function_signature}
use Rattle.bed_condition_text.specs.Texts.{parted, listed, name_text, assertion_text, bind_text, operand_text, op_text, place_text, test_text}

-- an action as its statement without the semicolon, a test after `assume`
abbrev pub action_text : Action → List ℕ
action_text (action.Assign x a) = x.bytes ++ (codes " <- " ++ operand_text a)
action_text (action.Compute x o a b) = x.bytes ++ (codes " <- " ++ (operand_text a ++ (op_text o ++ operand_text b)))
action_text (action.Load x p) = x.bytes ++ (codes " <- " ++ place_text p)
action_text (action.LoadByte x p) = x.bytes ++ (codes " <- byte " ++ place_text p)
action_text (action.Store p a) = place_text p ++ (codes " <- " ++ operand_text a)
action_text (action.StoreByte p a) = codes "byte " ++ (place_text p ++ (codes " <- " ++ operand_text a))
action_text (action.Assume t) = codes "assume " ++ test_text t

abbrev pub via_text : Option Name → List ℕ
via_text None = []
via_text (Some x) = codes " via " ++ x.bytes

-- what is called, with its arguments
abbrev pub target_text : Operand → Option Name → List Operand → List ℕ
target_text target via args = operand_text target ++ (via_text via ++ (codes "(" ++ (listed operand_text args ++ codes ")")))

-- the postcondition of a signature, nothing where there is none
abbrev pub post_text : Option Signature → List ℕ
post_text None = []
post_text (Some S) = assertion_text S.post

-- the goal of a function with this signature: what holds, what is called, or what is returned
abbrev pub goal_text : Option Signature → Goal → List ℕ
goal_text S (goal.Meets a) = assertion_text a
goal_text S (goal.Calls target via args into after) =
    codes "call " ++ (target_text target via args ++ (codes " after " ++ assertion_text after))
goal_text S (goal.Returns a) = codes "return " ++ (operand_text a ++ (codes " meets " ++ post_text S))

-- a line: its label, its text, a line feed
abbrev pub labelled : List ℕ → List ℕ → List ℕ
labelled label text = label ++ (text ++ codes "\n")

abbrev pub do_lines : List Action → List ℕ
do_lines [] = []
do_lines (a ∷ more) = labelled (codes "do ") (action_text a) ++ do_lines more

-- which condition it is, by its number, its function and its line and column in the text
abbrev pub place_of : ℕ → Name → ℕ → ℕ → List ℕ
place_of number function line column =
    decimal number ++ (codes ": " ++ (function.bytes ++ (codes " " ++ (decimal line ++ (codes ":" ++ decimal column)))))

-- the text of a condition: its place, what holds at its start, its actions and its goal, each on a line
abbrev pub condition_text : ℕ → Cond → Decls → ℕ → ℕ → List ℕ
condition_text number c decls line column =
    labelled (codes "condition ") (place_of number c.function line column)
    ++ (labelled (codes "from ") (assertion_text c.start)
    ++ (do_lines c.actions
    ++ labelled (codes "to ") (goal_text (function_signature decls c.function) c.goal)))

abbrev pub for_text : List Bind → List ℕ
for_text [] = []
for_text (b ∷ bs) = codes " for " ++ listed bind_text (b ∷ bs)

-- a name with its parameters
abbrev pub head_text : {T : Type 0} → Name → (T → List ℕ) → List T → List ℕ
head_text x f params = x.bytes ++ (codes "(" ++ (listed f params ++ codes ")"))

-- the words that a frame has, always shown, and the logical variables
unfoldable pub reserve_text : Signature → List ℕ
reserve_text S = codes " reserving " ++ (decimal S.reserve ++ for_text S.logical)

-- the precondition and the postcondition
unfoldable pub promises_text : Signature → List ℕ
promises_text S = codes " pre " ++ (assertion_text S.pre ++ (codes " post " ++ assertion_text S.post))

abbrev pub signature_text : Signature → List ℕ
signature_text S =
    codes "signature " ++ (head_text S.name name_text S.params ++ (reserve_text S ++ (promises_text S ++ codes ";")))

-- a predicate with all its cases
abbrev pub predicate_text : Predicate → List ℕ
predicate_text P =
    codes "predicate " ++ (head_text P.name bind_text P.params
    ++ (codes " = " ++ (parted (codes " | ") assertion_text P.cases ++ codes ";")))
