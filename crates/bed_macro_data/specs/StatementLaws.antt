-- Both laws of the statements without a call and without statements in them, what a path makes of them, and whether control comes to
-- their end.
use Rattle.std.proofs.Common.{◌≡◌, ℕ, ◌+◌, ◌<◌, ◌≤◌, ◌⊎◌, Bool, true, false, Some, None, List, [], ◌∷◌, refl, sym, ◌∙◌, ap}
use Rattle.std.specs.Prelude.{is_some}
use Rattle.bed_lang.specs.declared.word.Name.{Name}
use Rattle.bed_lang.specs.declared.module.Op.{Op}
use Rattle.bed_lang.specs.declared.module.Operand.{Operand}
use Rattle.bed_lang.specs.declared.module.Place.{Place}
use Rattle.bed_lang.specs.declared.module.Hint.{Hint}
use Rattle.bed_lang.specs.declared.module.Action.TheVariants as action
use Rattle.bed_lang.specs.declared.condition.Goal.TheVariants.{Returns}
use Rattle.bed_lang.specs.declared.statement.Stmt.{Stmt}
use Rattle.bed_lang.specs.declared.statement.StmtKind.{Assign, Compute, Return, Hint as HintStmt}
use Rattle.bed_table.specs.Pieces.{Piece}
use Rattle.bed_table.specs.CodeTable as table
use Rattle.bed_table.specs.Pieces.{nothing}
use Rattle.bed_table.specs.Code.{piece, body_piece}
use Rattle.bed_sat.specs.Assertions.{World}
use Rattle.bed_sat.specs.Conditions.{Site, Path, straight, answer, condition, statement_part, body_part, then_action, then_hint}
use Rattle.bed_sat.proofs.ConditionLaws.{part-Assign, part-Compute, part-Load, part-LoadByte, part-Store, part-StoreByte, part-Return, part-Hint}
use Rattle.bed_il.specs.declared.blocks.Block.{Block}
use Rattle.bed_laws.specs.Activations.{FunctionSite, IsAmong, AreDistinct}
use Rattle.bed_laws.specs.Spans.{Spans}
use Rattle.bed_laws.specs.Statements.{KeepStatements, LayStatements}
use Rattle.bed_laws.specs.StatementBlocks as blocks
use Rattle.bed_laws.specs.StatementBlocks.{IsKnown}
use Rattle.bed_laws.proofs.TestLaws.{one_span, no_heads}
use Rattle.bed_laws.proofs.StatementLaws.{assign_law, compute_law, load_law, load_byte_law, store_law, store_byte_law, hint_law, return_law}
use Rattle.bed_laws.proofs.LayLaws.{assign_lays, compute_lays, load_lays, load_byte_lays, store_lays, store_byte_lays, empty_lays, return_lays}
use Rattle.bed_laws.proofs.StatementsLaws.{one_goes, one_owes, keep_one, lay_one, piece-Assign, piece-Compute, piece-Load, piece-LoadByte, piece-Store, piece-StoreByte, piece-Return, piece-Hint}
use Rattle.bed_macro.specs.Ends.{GoOnWhereTheyFall}
use Rattle.bed_macro_data.specs.Kinds.{statement, load_kind, load_action, load_block, store_kind, store_action, store_block}

-- the labels of one block are from its label on
pub spans_one : (b : Block) → Spans (b ∷ []) [] b.label (b.label + 1)
spans_one b = one_span b [] (λ x is. no_heads x is)

-- ---- statements that each path leaves

module _ (site : Site) (s : Stmt) (f : Path → Path) (is : statement_part site s ≡ straight f) where
  pub straight_owes : (p : Path) → (body_part site (s ∷ [])).owes p ≡ []
  straight_owes p = one_owes site s (straight f) is p

  pub straight_goes : (p : Path) → (body_part site (s ∷ [])).goes_on p ≡ Some (f p)
  straight_goes p = one_goes site s (straight f) is p

  pub straight_ends : (q : Piece) → piece s ≡ q → q.falls ≡ true → GoOnWhereTheyFall site (s ∷ [])
  straight_ends q e falls p = ap is_some (straight_goes p) ∙ sym falls ∙ sym (ap (λ r. r.falls) e)

-- ---- x <- a

module _ (at : ℕ) (x : Name) (a : Operand) where
  pub assign_falls : (body_piece (statement at (Assign x a) ∷ [])).falls ≡ true
  assign_falls = ap (λ q. q.falls) (piece-Assign at x a)

  pub assign_ends : (site : Site) → GoOnWhereTheyFall site (statement at (Assign x a) ∷ [])
  assign_ends site = straight_ends site (statement at (Assign x a)) (then_action (action.Assign x a)) (part-Assign site at x a) (table.assignment x a) (piece-Assign at x a) refl

  pub assign_keeps : (w : World) (c : FunctionSite) → IsAmong c.site.locals x.bytes × IsKnown c.site.locals a → AreDistinct c.site.locals → (places : ℕ → ℕ) (first next : ℕ) → (next < first) ⊎ (first + 1 ≤ next)
      → KeepStatements w c places (blocks.assign_block c.site.locals x a first next ∷ []) [] first next (statement at (Assign x a) ∷ [])
  assign_keeps w c known distinct places first next other =
      keep_one w c places (blocks.assign_block c.site.locals x a first next ∷ []) [] first next (statement at (Assign x a)) (straight (then_action (action.Assign x a))) (part-Assign c.site at x a)
      (λ from. assign_law w c places distinct x known.0 first next other from a known.1)

  pub assign_lay : (locals : List Name) (first next : ℕ) → LayStatements locals (blocks.assign_block locals x a first next ∷ []) [] first next (statement at (Assign x a) ∷ [])
  assign_lay locals first next =
      lay_one locals (blocks.assign_block locals x a first next ∷ []) [] first next (statement at (Assign x a)) (table.assignment x a) (piece-Assign at x a) (assign_lays locals first next x a)

-- ---- x <- a op b

module _ (at : ℕ) (x : Name) (op : Op) (a b : Operand) where
  pub compute_falls : (body_piece (statement at (Compute x op a b) ∷ [])).falls ≡ true
  compute_falls = ap (λ q. q.falls) (piece-Compute at x op a b)

  pub compute_ends : (site : Site) → GoOnWhereTheyFall site (statement at (Compute x op a b) ∷ [])
  compute_ends site =
      straight_ends site (statement at (Compute x op a b)) (then_action (action.Compute x op a b)) (part-Compute site at x op a b) (table.computation x op a b) (piece-Compute at x op a b) refl

  pub compute_keeps : (w : World) (c : FunctionSite) → IsAmong c.site.locals x.bytes × IsKnown c.site.locals a × IsKnown c.site.locals b → AreDistinct c.site.locals → (places : ℕ → ℕ) (first next : ℕ) → (next < first) ⊎ (first + 1 ≤ next)
      → KeepStatements w c places (blocks.compute_block c.site.locals x op a b first next ∷ []) [] first next (statement at (Compute x op a b) ∷ [])
  compute_keeps w c known distinct places first next other =
      keep_one w c places (blocks.compute_block c.site.locals x op a b first next ∷ []) [] first next (statement at (Compute x op a b)) (straight (then_action (action.Compute x op a b))) (part-Compute c.site at x op a b)
      (λ from. compute_law w c places distinct x known.0 first next other from op a b known.1 known.2)

  pub compute_lay : (locals : List Name) (first next : ℕ) → LayStatements locals (blocks.compute_block locals x op a b first next ∷ []) [] first next (statement at (Compute x op a b) ∷ [])
  compute_lay locals first next =
      lay_one locals (blocks.compute_block locals x op a b first next ∷ []) [] first next (statement at (Compute x op a b)) (table.computation x op a b) (piece-Compute at x op a b) (compute_lays locals first next x op a b)

-- ---- x <- [p]

pub load_part : (site : Site) (at : ℕ) (byte : Bool) (x : Name) (p : Place) → statement_part site (statement at (load_kind byte x p)) ≡ straight (then_action (load_action byte x p))
load_part site at false x p = part-Load site at x p
load_part site at true x p = part-LoadByte site at x p

pub load_falls : (at : ℕ) (byte : Bool) (x : Name) (p : Place) → (body_piece (statement at (load_kind byte x p) ∷ [])).falls ≡ true
load_falls at false x p = ap (λ q. q.falls) (piece-Load at x p)
load_falls at true x p = ap (λ q. q.falls) (piece-LoadByte at x p)

pub load_ends : (at : ℕ) (byte : Bool) (x : Name) (p : Place) (site : Site) → GoOnWhereTheyFall site (statement at (load_kind byte x p) ∷ [])
load_ends at byte x p site = straight_ends site (statement at (load_kind byte x p)) (then_action (load_action byte x p)) (load_part site at byte x p) (piece (statement at (load_kind byte x p))) refl (load_falls at byte x p)

pub load_spans : (byte : Bool) (x : Name) (p : Place) (locals : List Name) (first next : ℕ) → Spans (load_block locals byte x p first next ∷ []) [] first (first + 1)
load_spans false x p locals first next = spans_one (blocks.load_block locals x p first next)
load_spans true x p locals first next = spans_one (blocks.load_byte_block locals x p first next)

pub load_keeps : (at : ℕ) (byte : Bool) (x : Name) (p : Place) (w : World) (c : FunctionSite) → IsAmong c.site.locals x.bytes × IsKnown c.site.locals p.base → AreDistinct c.site.locals → (places : ℕ → ℕ) (first next : ℕ) → (next < first) ⊎ (first + 1 ≤ next)
    → KeepStatements w c places (load_block c.site.locals byte x p first next ∷ []) [] first next (statement at (load_kind byte x p) ∷ [])
load_keeps at false x p w c known distinct places first next other =
    keep_one w c places (blocks.load_block c.site.locals x p first next ∷ []) [] first next (statement at (load_kind false x p)) (straight (then_action (action.Load x p))) (part-Load c.site at x p)
    (λ from. load_law w c places distinct x known.0 first next other from p known.1)
load_keeps at true x p w c known distinct places first next other =
    keep_one w c places (blocks.load_byte_block c.site.locals x p first next ∷ []) [] first next (statement at (load_kind true x p)) (straight (then_action (action.LoadByte x p))) (part-LoadByte c.site at x p)
    (λ from. load_byte_law w c places distinct x known.0 first next other from p known.1)

pub load_lay : (at : ℕ) (byte : Bool) (x : Name) (p : Place) (locals : List Name) (first next : ℕ) → LayStatements locals (load_block locals byte x p first next ∷ []) [] first next (statement at (load_kind byte x p) ∷ [])
load_lay at false x p locals first next =
    lay_one locals (blocks.load_block locals x p first next ∷ []) [] first next (statement at (load_kind false x p)) (table.load x p) (piece-Load at x p) (load_lays locals first next x p)
load_lay at true x p locals first next =
    lay_one locals (blocks.load_byte_block locals x p first next ∷ []) [] first next (statement at (load_kind true x p)) (table.load_byte x p) (piece-LoadByte at x p) (load_byte_lays locals first next x p)

-- ---- [p] <- a

pub store_part : (site : Site) (at : ℕ) (byte : Bool) (p : Place) (a : Operand) → statement_part site (statement at (store_kind byte p a)) ≡ straight (then_action (store_action byte p a))
store_part site at false p a = part-Store site at p a
store_part site at true p a = part-StoreByte site at p a

pub store_falls : (at : ℕ) (byte : Bool) (p : Place) (a : Operand) → (body_piece (statement at (store_kind byte p a) ∷ [])).falls ≡ true
store_falls at false p a = ap (λ q. q.falls) (piece-Store at p a)
store_falls at true p a = ap (λ q. q.falls) (piece-StoreByte at p a)

pub store_ends : (at : ℕ) (byte : Bool) (p : Place) (a : Operand) (site : Site) → GoOnWhereTheyFall site (statement at (store_kind byte p a) ∷ [])
store_ends at byte p a site = straight_ends site (statement at (store_kind byte p a)) (then_action (store_action byte p a)) (store_part site at byte p a) (piece (statement at (store_kind byte p a))) refl (store_falls at byte p a)

pub store_spans : (byte : Bool) (p : Place) (a : Operand) (locals : List Name) (first next : ℕ) → Spans (store_block locals byte p a first next ∷ []) [] first (first + 1)
store_spans false p a locals first next = spans_one (blocks.store_block locals p a first next)
store_spans true p a locals first next = spans_one (blocks.store_byte_block locals p a first next)

pub store_keeps : (at : ℕ) (byte : Bool) (p : Place) (a : Operand) (w : World) (c : FunctionSite) → IsKnown c.site.locals p.base × IsKnown c.site.locals a → (places : ℕ → ℕ) (first next : ℕ) → (next < first) ⊎ (first + 1 ≤ next)
    → KeepStatements w c places (store_block c.site.locals byte p a first next ∷ []) [] first next (statement at (store_kind byte p a) ∷ [])
store_keeps at false p a w c known places first next other =
    keep_one w c places (blocks.store_block c.site.locals p a first next ∷ []) [] first next (statement at (store_kind false p a)) (straight (then_action (action.Store p a))) (part-Store c.site at p a)
    (λ from. store_law w c places p a known.0 known.1 first next other from)
store_keeps at true p a w c known places first next other =
    keep_one w c places (blocks.store_byte_block c.site.locals p a first next ∷ []) [] first next (statement at (store_kind true p a)) (straight (then_action (action.StoreByte p a))) (part-StoreByte c.site at p a)
    (λ from. store_byte_law w c places p a known.0 known.1 first next other from)

pub store_lay : (at : ℕ) (byte : Bool) (p : Place) (a : Operand) (locals : List Name) (first next : ℕ) → LayStatements locals (store_block locals byte p a first next ∷ []) [] first next (statement at (store_kind byte p a) ∷ [])
store_lay at false p a locals first next =
    lay_one locals (blocks.store_block locals p a first next ∷ []) [] first next (statement at (store_kind false p a)) (table.store p a) (piece-Store at p a) (store_lays locals first next p a)
store_lay at true p a locals first next =
    lay_one locals (blocks.store_byte_block locals p a first next ∷ []) [] first next (statement at (store_kind true p a)) (table.store_byte p a) (piece-StoreByte at p a) (store_byte_lays locals first next p a)

-- ---- hint h

module _ (at : ℕ) (h : Hint) where
  pub hint_falls : (body_piece (statement at (HintStmt h) ∷ [])).falls ≡ true
  hint_falls = ap (λ q. q.falls) (piece-Hint at h)

  pub hint_ends : (site : Site) → GoOnWhereTheyFall site (statement at (HintStmt h) ∷ [])
  hint_ends site = straight_ends site (statement at (HintStmt h)) (then_hint h) (part-Hint site at h) nothing (piece-Hint at h) refl

  pub hint_keeps : (w : World) (c : FunctionSite) (places : ℕ → ℕ) (first next : ℕ) → (next < first) ⊎ (first + 1 ≤ next)
      → KeepStatements w c places (blocks.empty_block first next ∷ []) [] first next (statement at (HintStmt h) ∷ [])
  hint_keeps w c places first next other =
      keep_one w c places (blocks.empty_block first next ∷ []) [] first next (statement at (HintStmt h)) (straight (then_hint h)) (part-Hint c.site at h)
      (λ from. hint_law w c places h first next other from)

  pub hint_lay : (locals : List Name) (first next : ℕ) → LayStatements locals (blocks.empty_block first next ∷ []) [] first next (statement at (HintStmt h) ∷ [])
  hint_lay locals first next = lay_one locals (blocks.empty_block first next ∷ []) [] first next (statement at (HintStmt h)) nothing (piece-Hint at h) (empty_lays locals first next)

-- ---- return a

module _ (at : ℕ) (a : Operand) where
  pub return_falls : (body_piece (statement at (Return a) ∷ [])).falls ≡ false
  return_falls = ap (λ q. q.falls) (piece-Return at a)

  pub return_owes : (site : Site) (p : Path) → (body_part site (statement at (Return a) ∷ [])).owes p ≡ condition site at (Returns a) p ∷ []
  return_owes site p = one_owes site (statement at (Return a)) (answer site at a) (part-Return site at a) p

  pub return_goes : (site : Site) (p : Path) → (body_part site (statement at (Return a) ∷ [])).goes_on p ≡ None
  return_goes site p = one_goes site (statement at (Return a)) (answer site at a) (part-Return site at a) p

  pub return_ends : (site : Site) → GoOnWhereTheyFall site (statement at (Return a) ∷ [])
  return_ends site p = ap is_some (return_goes site p) ∙ sym return_falls

  pub return_keeps : (w : World) (c : FunctionSite) → IsKnown c.site.locals a → (places : ℕ → ℕ) (first next : ℕ)
      → KeepStatements w c places (blocks.return_block c.site.locals a first ∷ []) [] first next (statement at (Return a) ∷ [])
  return_keeps w c known places first next =
      keep_one w c places (blocks.return_block c.site.locals a first ∷ []) [] first next (statement at (Return a)) (answer c.site at a) (part-Return c.site at a)
      (λ from. return_law w c places at a known first next from)

  pub return_lay : (locals : List Name) (first next : ℕ) → LayStatements locals (blocks.return_block locals a first ∷ []) [] first next (statement at (Return a) ∷ [])
  return_lay locals first next = lay_one locals (blocks.return_block locals a first ∷ []) [] first next (statement at (Return a)) (table.answer a) (piece-Return at a) (return_lays locals first next a)
