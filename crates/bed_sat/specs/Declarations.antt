-- Declarations among more declarations: those of a module among those of all modules that are linked.
use Rattle.std.specs.Prelude.{◌≡◌, ℕ, Bool, true, ◌&&◌, IsTrue, is_some, Option, Some, None, List, Contains}
use Rattle.std.specs.List.{list_all}
use Rattle.bed_lang.specs.declared.word.Name.{Name}
use Rattle.bed_lang.specs.declared.logic.Atom.{Atom}
use Rattle.bed_lang.specs.declared.logic.Atom.TheVariants as atom
use Rattle.bed_lang.specs.declared.logic.Term.{Term}
use Rattle.bed_lang.specs.declared.logic.Term.TheVariants as term
use Rattle.bed_lang.specs.declared.logic.Assertion.{Assertion}
use Rattle.bed_lang.specs.declared.module.Join.{Join}
use Rattle.bed_lang.specs.declared.module.Signature.{Signature}
use Rattle.bed_lang.specs.declared.module.Predicate.{Predicate}
use Rattle.bed_lang.specs.declared.module.Module.{Module}
use Rattle.bed_lang.specs.declared.statement.Stmt.{Stmt, Stmt-F, fold-Stmt}
use Rattle.bed_lang.specs.declared.statement.StmtKind.{StmtKind, StmtKind-F, fold-StmtKind}
use Rattle.bed_lang.specs.declared.condition.Decls.{Decls}
use Rattle.bed_lang.specs.Same.{same_name, same_signature, same_predicate}
use Rattle.bed_lang.specs.Declarations.{declarations}
use Rattle.bed_lang.specs.Lookups.{signature_named, predicate_named, label_signature}

-- each predicate of the first declarations is one of the second, by the same tree, places aside
pub record KeepsPredicates (few more : Decls) : Type 0 where
  pub keeps : (name : List ℕ) (d : Predicate) → predicate_named few name ≡ Some d
      → (e : Predicate) × (predicate_named more name ≡ Some e) × IsTrue (same_predicate d e)

-- so is each signature, and each label has the signature of the same name
pub record Extends (few more : Decls) : Type 0 where
  pub predicates : KeepsPredicates few more
  pub signatures : (name : List ℕ) (S : Signature) → signature_named few name ≡ Some S
      → (T : Signature) × (signature_named more name ≡ Some T) × IsTrue (same_signature S T)
  pub labels : (f : List ℕ) (name : Name) → label_signature few f ≡ Some name
      → (other : Name) × (label_signature more f ≡ Some other) × IsTrue (same_name name other)

-- Of several declarations of one name each is the same, places aside: signatures and predicates by their trees, labels by the names
-- of their signatures. For modules that are linked the linker sees to it.
pub record IsConsistent (d : Decls) : Type 0 where
  pub signatures : (S T : Signature) → Contains d.signatures S → Contains d.signatures T → IsTrue (same_name S.name T.name) → IsTrue (same_signature S T)
  pub predicates : (p q : Predicate) → Contains d.predicates p → Contains d.predicates q → IsTrue (same_name p.name q.name) → IsTrue (same_predicate p q)
  pub labels : (k l : Name × Name) → Contains d.labels k → Contains d.labels l → IsTrue (same_name k.0 l.0) → IsTrue (same_name k.1 l.1)

-- ---- which predicates are named

module _ (d : Decls) where
  -- each predicate that an assertion names is declared
  abbrev pub atom_known : Atom → Bool
  atom_known (atom.Pred x args) = is_some (predicate_named d x.bytes)
  atom_known _ = true

  abbrev pub term_known : Term → Bool
  term_known (term.Atom a) = atom_known a
  term_known _ = true

  abbrev pub assertion_known : Assertion → Bool
  assertion_known A = list_all term_known A.terms

  abbrev pub signature_known : Signature → Bool
  signature_known S = assertion_known S.pre && assertion_known S.post

  abbrev pub predicate_known : Predicate → Bool
  predicate_known p = list_all assertion_known p.cases

  abbrev pub join_known : Option Join → Bool
  join_known None = true
  join_known (Some j) = assertion_known j.assertion

  -- each assertion of a statement at any depth
  abbrev pub kind_known_step : StmtKind-F Bool Bool → Bool
  kind_known_step (StmtKind-F.Call place into target via args hints after) = assertion_known after
  kind_known_step (StmtKind-F.If test ys ns join) = list_all (λ b. b) ys && (list_all (λ b. b) ns && join_known join)
  kind_known_step (StmtKind-F.While test place invariant body) = assertion_known invariant && list_all (λ b. b) body
  kind_known_step (StmtKind-F.Find n v a p s u t keep body) = assertion_known keep && list_all (λ b. b) body
  kind_known_step (StmtKind-F.Walk n v p s u t keep body) = assertion_known keep && list_all (λ b. b) body
  kind_known_step _ = true

  abbrev pub statement_known_step : Stmt-F Bool Bool → Bool
  statement_known_step s = s.kind

  abbrev pub kind_known : StmtKind → Bool
  kind_known = fold-StmtKind Bool Bool kind_known_step statement_known_step

  abbrev pub statement_known : Stmt → Bool
  statement_known = fold-Stmt Bool Bool kind_known_step statement_known_step

  -- each predicate that the signatures, the predicates, and the bodies of a module name is declared
  abbrev pub signatures_known : Bool
  signatures_known = list_all signature_known d.signatures

  abbrev pub predicates_known : Bool
  predicates_known = list_all predicate_known d.predicates

  abbrev pub bodies_known : Module → Bool
  bodies_known m = list_all (λ f. list_all statement_known f.body) m.functions

-- A module names no predicate that it doesn't declare: the rules of names see to it.
abbrev pub module_known : Module → Bool
module_known m =
    signatures_known (declarations m) && (predicates_known (declarations m) && bodies_known (declarations m) m)
