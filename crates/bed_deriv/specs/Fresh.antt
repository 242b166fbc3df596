-- Trees whose fresh variables are known: each has a number below the state's next one. With 0 as the next number: trees that
-- hold no fresh variable.
use Rattle.std.specs.Prelude.{ℕ, ◌+◌, Bool, true, ◌&&◌, nat_lt, IsTrue, List, [], ◌∷◌, length}
use Rattle.bed_lang.specs.declared.word.Name.{Name}
use Rattle.bed_lang.specs.declared.word.Var.{Var}
use Rattle.bed_lang.specs.declared.word.Var.TheVariants as var
use Rattle.bed_lang.specs.declared.word.Word.{Word, fold-Word}
use Rattle.bed_lang.specs.declared.word.Word.TheOpen.{Word-F}
use Rattle.bed_lang.specs.declared.word.Seq.{Seq, fold-Seq}
use Rattle.bed_lang.specs.declared.word.Seq.TheOpen.{Seq-F}
use Rattle.bed_lang.specs.declared.logic.Arg.{Arg}
use Rattle.bed_lang.specs.declared.logic.Arg.TheVariants as arg
use Rattle.bed_lang.specs.declared.logic.Pure.{Pure}
use Rattle.bed_lang.specs.declared.logic.Pure.TheVariants as pure
use Rattle.bed_lang.specs.declared.logic.Atom.{Atom}
use Rattle.bed_lang.specs.declared.logic.Atom.TheVariants as atom
use Rattle.bed_lang.specs.declared.logic.Term.{Term}
use Rattle.bed_lang.specs.declared.logic.Term.TheVariants as term
use Rattle.bed_lang.specs.declared.logic.Assertion.{Assertion}
use Rattle.bed_lang.specs.declared.module.Signature.{Signature}
use Rattle.bed_lang.specs.declared.module.Predicate.{Predicate}
use Rattle.bed_lang.specs.declared.condition.Decls.{Decls}
use Rattle.bed_lang.specs.declared.condition.Goal.{Goal}
use Rattle.bed_lang.specs.declared.condition.Goal.TheVariants as goal
use Rattle.bed_lang.specs.declared.condition.Cond.{Cond}
use Rattle.bed_deriv.specs.declared.state.SymState.{SymState}

-- all items of a list pass a test
abbrev pub every : {A : Type 0} → (A → Bool) → List A → Bool
every f [] = true
every f (x ∷ xs) = f x && every f xs

module _ (next : ℕ) where
  abbrev pub known_var : Var → Bool
  known_var (var.Fresh n) = nat_lt n next
  known_var _ = true

  abbrev pub known_word_step : Word-F Bool → Bool
  known_word_step (Word-F.Number n) = true
  known_word_step (Word-F.Var x) = known_var x
  known_word_step (Word-F.Label f) = true
  known_word_step (Word-F.Add a b) = a && b
  known_word_step (Word-F.Sub a b) = a && b
  known_word_step (Word-F.Times n a) = a

  abbrev pub known_word : Word → Bool
  known_word = fold-Word Bool known_word_step

  abbrev pub known_seq_step : Seq-F Bool → Bool
  known_seq_step (Seq-F.Var x) = known_var x
  known_seq_step Seq-F.Nil = true
  known_seq_step (Seq-F.Cons a s) = known_word a && s
  known_seq_step (Seq-F.App s t) = s && t

  abbrev pub known_seq : Seq → Bool
  known_seq = fold-Seq Bool known_seq_step

  abbrev pub known_arg : Arg → Bool
  known_arg (arg.Word at a) = known_word a
  known_arg (arg.Seq at s) = known_seq s
  known_arg (arg.Bare name) = true

  abbrev pub known_pure : Pure → Bool
  known_pure (pure.Equal a b) = known_word a && known_word b
  known_pure (pure.Unequal a b) = known_word a && known_word b
  known_pure (pure.Less a b) = known_word a && known_word b
  known_pure (pure.AtMost a b) = known_word a && known_word b
  known_pure (pure.Same s t) = known_seq s && known_seq t
  known_pure (pure.Member a s) = known_word a && known_seq s
  known_pure (pure.NonMember a s) = known_word a && known_seq s
  known_pure (pure.Code a name) = known_word a

  abbrev pub known_atom : Atom → Bool
  known_atom (atom.Cell a v) = known_word a && known_word v
  known_atom (atom.Byte a v) = known_word a && known_word v
  known_atom (atom.Block a n) = known_word a && known_word n
  known_atom (atom.Pred name args) = every known_arg args

  abbrev pub known_term : Term → Bool
  known_term term.Emp = true
  known_term (term.Pure p) = known_pure p
  known_term (term.Atom a) = known_atom a

  abbrev pub known_assertion : Assertion → Bool
  known_assertion A = every known_term A.terms

  abbrev pub known_local : Name × Word → Bool
  known_local p = known_word p.1

  abbrev pub known_value : Name × Arg → Bool
  known_value p = known_arg p.1

-- a state whose fresh variables all have a number below its next one
pub record IsKnownState (s : SymState) : Type 0 where
  pub locals : IsTrue (every (known_local s.next) s.locals)
  pub facts : IsTrue (every (known_pure s.next) s.facts)
  pub atoms : IsTrue (every (known_atom s.next) s.atoms)

-- declarations without a fresh variable
abbrev pub unfresh_signature : Signature → Bool
unfresh_signature S = known_assertion 0 S.pre && known_assertion 0 S.post

abbrev pub unfresh_predicate : Predicate → Bool
unfresh_predicate p = every (known_assertion 0) p.cases

pub record AreUnfresh (d : Decls) : Type 0 where
  pub signatures : IsTrue (every unfresh_signature d.signatures)
  pub predicates : IsTrue (every unfresh_predicate d.predicates)

-- a condition whose assertions have no fresh variable; its actions have no variables but locals, and its hints open no state
abbrev pub unfresh_goal : Goal → Bool
unfresh_goal (goal.Meets A) = known_assertion 0 A
unfresh_goal (goal.Calls target via args into after) = known_assertion 0 after
unfresh_goal (goal.Returns a) = true

abbrev pub unfresh_condition : Cond → Bool
unfresh_condition c = known_assertion 0 c.start && unfresh_goal c.goal

-- the locals, binders and terms of a condition: its start's, its goal's
abbrev pub assertion_size : Assertion → ℕ
assertion_size A = length A.binders + length A.terms

abbrev pub goal_size : Goal → ℕ
goal_size (goal.Meets A) = assertion_size A
goal_size (goal.Calls target via args into after) = assertion_size after
goal_size (goal.Returns a) = 0

abbrev pub condition_size : Cond → ℕ
condition_size c = length c.locals + assertion_size c.start + goal_size c.goal
