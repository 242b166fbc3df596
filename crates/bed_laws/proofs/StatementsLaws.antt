-- Both laws for statements: of each kind, of none, and of two lists of them in a row.
use Rattle.std.proofs.Common.{◌≡◌, ◌↔◌, ℕ, zero, suc, ◌+◌, ◌<◌, ◌≤◌, Bool, true, false, ◌||◌, Option, Some, None, option_map, option_and_then, List, [], ◌∷◌, ◌++◌, map, inl, inr, ◌⊎◌, refl, sym, ◌∙◌, ap, ap₂, subst, arith, append_assoc}
use Rattle.std.specs.Option.{option_or}
use Rattle.std.proofs.lemmas.List.{append-nil, map-append}
use Rattle.bed_lang.specs.declared.word.Name.{Name}
use Rattle.bed_lang.specs.declared.logic.Assertion.{Assertion}
use Rattle.bed_lang.specs.declared.module.Op.{Op}
use Rattle.bed_lang.specs.declared.module.Operand.{Operand}
use Rattle.bed_lang.specs.declared.module.Place.{Place}
use Rattle.bed_lang.specs.declared.module.Test.{Test}
use Rattle.bed_lang.specs.declared.module.Hint.{Hint}
use Rattle.bed_lang.specs.declared.module.Join.{Join}
use Rattle.bed_lang.specs.declared.module.Signature.{Signature}
use Rattle.bed_lang.specs.declared.condition.Cond.{Cond}
use Rattle.bed_lang.specs.declared.statement.Stmt.{Stmt}
use Rattle.bed_lang.specs.declared.statement.StmtKind.{StmtKind, StmtKind-F, fold-roll-StmtKind, roll-StmtKind, map-StmtKind, Assign, Compute, Load, LoadByte, Store, StoreByte, Call, If, While, Return, Hint as HintStmt}
use Rattle.bed_lang.specs.declared.statement.StmtKind.TheVariants.{rolls-Assign, rolls-Compute, rolls-Load, rolls-LoadByte, rolls-Store, rolls-StoreByte, rolls-Call, rolls-If, rolls-While, rolls-Return, rolls-Hint}
use Rattle.bed_lang.specs.Lookups.{signature_named}
use Rattle.bed_table.specs.Pieces.{Piece, nothing, sequence, falls_after, size_of, bytes_of, heads_of}
use Rattle.bed_table.specs.CodeTable as table
use Rattle.bed_table.specs.Code.{kind_row, statement_row, kind_piece, piece, body_piece}
use Rattle.bed_table.proofs.CodeLemmas.{piece-kind, piece-If, piece-While}
use Rattle.bed_table.proofs.SizeLaws.{size_of-append, bytes_of-append, heads_of-append}
use Rattle.bed_sat.specs.Assertions.{World}
use Rattle.bed_sat.specs.Frames.{frame_size}
use Rattle.bed_sat.specs.Valid.{callee_name}
use Rattle.bed_sat.specs.Conditions.{Site, Path, Part, in_order, owed_from, statement_part, body_part, path_from, where_true, where_false}
use Rattle.bed_sat.proofs.ConditionLaws.{part-Assign, part-Compute, part-Load, part-LoadByte, part-Store, part-StoreByte, part-Call, part-If, part-While, part-Return, part-Hint}
use Rattle.bed_il.specs.declared.blocks.Block.{Block}
use Rattle.bed_laws.specs.Activations.{FunctionSite, IsAmong, AreDistinct}
use Rattle.bed_laws.specs.Keeps.{LoopHead, Law, AllHold}
use Rattle.bed_laws.specs.Spans.{Spans}
use Rattle.bed_laws.specs.Lays.{Lays}
use Rattle.bed_laws.specs.Statements.{KeepStatements, LayStatements}
use Rattle.bed_laws.specs.StatementBlocks.{IsKnown, going, test_block, assign_block, compute_block, load_block, load_byte_block, store_block, store_byte_block, return_block, empty_block, call_blocks}
use Rattle.bed_laws.proofs.SequenceLaws.{then_law, dead_law, spans_append}
use Rattle.bed_laws.proofs.StatementLaws.{assign_law, compute_law, load_law, load_byte_law, store_law, store_byte_law, return_law, hint_law, empty_law}
use Rattle.bed_laws.proofs.CallLaws.{AreKnown, call_law}
use Rattle.bed_laws.proofs.LoopLaws.{loop_law, once_law}
use Rattle.bed_laws.proofs.ChoiceLaws.{joined_path, one_path, IsOnePath, choice_join, choice_one, stop_join, stop_one}
use Rattle.bed_laws.proofs.LayLaws.{lays_same, then_lays, both, assign_lays, compute_lays, load_lays, load_byte_lays, store_lays, store_byte_lays, return_lays, empty_lays}
use Rattle.bed_laws.proofs.CallLays.{call_lays}
use Rattle.bed_laws.proofs.ControlLays.{loop_lays, once_lays, choice_lays, stop_lays}

-- ---- what statements in a row owe, and are

some_of : (o : Option Path) → option_and_then (λ p. Some p) o ≡ o
some_of None = refl
some_of (Some p) = refl

none_owed : (o : Option Path) → owed_from o (in_order []) ≡ []
none_owed None = refl
none_owed (Some p) = refl

module _ (site : Site) where
  pub one_goes : (s : Stmt) (part : Part) → statement_part site s ≡ part → (p : Path) → (body_part site (s ∷ [])).goes_on p ≡ part.goes_on p
  one_goes s part e p = some_of ((statement_part site s).goes_on p) ∙ ap (λ (q : Part). q.goes_on p) e

  pub one_owes : (s : Stmt) (part : Part) → statement_part site s ≡ part → (p : Path) → (body_part site (s ∷ [])).owes p ≡ part.owes p
  one_owes s part e p =
      ap (λ l. (statement_part site s).owes p ++ l) (none_owed ((statement_part site s).goes_on p)) ∙ append-nil ((statement_part site s).owes p)
      ∙ ap (λ (q : Part). q.owes p) e

  and_then : (f g : Path → Option Path) (o : Option Path) → option_and_then g (option_and_then f o) ≡ option_and_then (λ p. option_and_then g (f p)) o
  and_then f g None = refl
  and_then f g (Some p) = refl

  same_goes : (f g : Path → Option Path) → ((p : Path) → f p ≡ g p) → (o : Option Path) → option_and_then f o ≡ option_and_then g o
  same_goes f g e None = refl
  same_goes f g e (Some p) = e p

  pub then_goes : (xs ys : List Stmt) (p : Path) → (body_part site (xs ++ ys)).goes_on p ≡ option_and_then (body_part site ys).goes_on ((body_part site xs).goes_on p)
  then_goes [] ys p = refl
  then_goes (x ∷ xs) ys p =
      same_goes (body_part site (xs ++ ys)).goes_on (λ q. option_and_then (body_part site ys).goes_on ((body_part site xs).goes_on q)) (then_goes xs ys) ((statement_part site x).goes_on p)
      ∙ sym (and_then (body_part site xs).goes_on (body_part site ys).goes_on ((statement_part site x).goes_on p))

  owed_both : (xs ys : List Stmt) → ((p : Path) → (body_part site (xs ++ ys)).owes p ≡ (body_part site xs).owes p ++ owed_from ((body_part site xs).goes_on p) (body_part site ys)) → (o : Option Path)
      → owed_from o (body_part site (xs ++ ys)) ≡ owed_from o (body_part site xs) ++ owed_from (option_and_then (body_part site xs).goes_on o) (body_part site ys)
  owed_both xs ys e None = refl
  owed_both xs ys e (Some p) = e p

  pub then_owes : (xs ys : List Stmt) (p : Path) → (body_part site (xs ++ ys)).owes p ≡ (body_part site xs).owes p ++ owed_from ((body_part site xs).goes_on p) (body_part site ys)
  then_owes [] ys p = refl
  then_owes (x ∷ xs) ys p =
      ap (λ l. (statement_part site x).owes p ++ l) (owed_both xs ys (then_owes xs ys) ((statement_part site x).goes_on p))
      ∙ sym (append_assoc ((statement_part site x).owes p) (owed_from ((statement_part site x).goes_on p) (body_part site xs))
      (owed_from (option_and_then (body_part site xs).goes_on ((statement_part site x).goes_on p)) (body_part site ys)))

falls_after-append : (b : Bool) (ps qs : List Piece) → falls_after b (ps ++ qs) ≡ falls_after (falls_after b ps) qs
falls_after-append b [] qs = refl
falls_after-append b (p ∷ ps) qs = falls_after-append p.falls ps qs

-- control comes to the end of two lists where it comes to that of the second, if it comes to that of the first
pub then_falls : (xs ys : List Stmt) → (body_piece xs).falls ≡ true → (body_piece (xs ++ ys)).falls ≡ (body_piece ys).falls
then_falls xs ys e =
    ap (falls_after true) (map-append piece xs ys) ∙ falls_after-append true (map piece xs) (map piece ys) ∙ ap (λ b. falls_after b (map piece ys)) e

-- ---- two lists of statements in a row

module _ (w : World) (c : FunctionSite) (places : ℕ → ℕ) (B C : List Block) (hb hc : List LoopHead) (lo mid hi next : ℕ) (le : lo ≤ mid) (le2 : mid ≤ hi)
    (sb : Spans B hb lo mid) (sc : Spans C hc mid hi) (out : (next < lo) ⊎ (hi ≤ next)) where
  then_from : (xs ys : List Stmt) (from : Path) (cb : List Cond) (mid_path : Option Path) → Law w c places B hb lo mid cb from mid_path → KeepStatements w c places C hc mid next ys
      → Law w c places (B ++ C) (hb ++ hc) lo next (cb ++ owed_from mid_path (body_part c.site ys)) from (option_and_then (body_part c.site ys).goes_on mid_path)
  then_from xs ys from cb None lb lc = dead_law w c places B C hb hc lo mid hi next le le2 sb sc out cb from lb
  then_from xs ys from cb (Some p) lb lc = then_law w c places B C hb hc lo mid hi next le le2 sb sc out cb ((body_part c.site ys).owes p) from p ((body_part c.site ys).goes_on p) lb (lc p)

  pub then_keep : (xs ys : List Stmt) → KeepStatements w c places B hb lo mid xs → KeepStatements w c places C hc mid next ys → KeepStatements w c places (B ++ C) (hb ++ hc) lo next (xs ++ ys)
  then_keep xs ys lb lc from =
      subst (λ o. Law w c places (B ++ C) (hb ++ hc) lo next ((body_part c.site (xs ++ ys)).owes from) from o) (sym (then_goes c.site xs ys from))
      (subst (λ l. Law w c places (B ++ C) (hb ++ hc) lo next l from (option_and_then (body_part c.site ys).goes_on ((body_part c.site xs).goes_on from))) (sym (then_owes c.site xs ys from))
      (then_from xs ys from ((body_part c.site xs).owes from) ((body_part c.site xs).goes_on from) (lb from) lc))

module _ (locals : List Name) (B C : List Block) (hb hc : List LoopHead) (lo mid hi next : ℕ) (sb : Spans B hb lo mid) (sc : Spans C hc mid hi) where
  pub then_lay : (xs ys : List Stmt) → (body_piece xs).falls ≡ true → LayStatements locals B hb lo mid xs → LayStatements locals C hc mid next ys → LayStatements locals (B ++ C) (hb ++ hc) lo next (xs ++ ys)
  then_lay xs ys falls lb lc =
      lays_same locals (B ++ C) (hb ++ hc) lo next (both locals B C hb hc lo mid hi next sb sc (body_piece xs) (body_piece ys) lb lc) (body_piece (xs ++ ys))
      (sym (then_falls xs ys falls))
      (sym (ap size_of (map-append piece xs ys) ∙ size_of-append (map piece xs) (map piece ys)))
      (λ functions at. sym (ap (λ ps. bytes_of locals functions at ps) (map-append piece xs ys) ∙ bytes_of-append locals functions at (map piece xs) (map piece ys)))
      (λ at. sym (ap (heads_of at) (map-append piece xs ys) ∙ heads_of-append at (map piece xs) (map piece ys)))
      (then_lays locals B C hb hc lo mid hi next sb sc (body_piece xs) (body_piece ys) lb lc)

-- ---- one statement

-- both laws of one statement, from those of its part and its piece
pub keep_one : (w : World) (c : FunctionSite) (places : ℕ → ℕ) (B : List Block) (heads : List LoopHead) (first next : ℕ) (s : Stmt) (part : Part) → statement_part c.site s ≡ part
    → ((from : Path) → Law w c places B heads first next (part.owes from) from (part.goes_on from)) → KeepStatements w c places B heads first next (s ∷ [])
keep_one w c places B heads first next s part e law from =
    subst (λ o. Law w c places B heads first next ((body_part c.site (s ∷ [])).owes from) from o) (sym (one_goes c.site s part e from))
    (subst (λ l. Law w c places B heads first next l from (part.goes_on from)) (sym (one_owes c.site s part e from)) (law from))

pub lay_one : (locals : List Name) (B : List Block) (heads : List LoopHead) (first next : ℕ) (s : Stmt) (p : Piece) → piece s ≡ p → Lays locals B heads first next p → LayStatements locals B heads first next (s ∷ [])
lay_one locals B heads first next s p e l =
    lays_same locals B heads first next (piece s) (body_piece (s ∷ [])) refl (let z : (piece s).size ≡ (piece s).size + 0 = omega arith in z)
    (λ functions at. sym (append-nil ((piece s).bytes locals functions at))) (λ at. sym (append-nil ((piece s).heads at)))
    (subst (λ q. Lays locals B heads first next q) (sym e) l)

-- the code of a statement, by its kind
kind_is : (x : StmtKind-F StmtKind Stmt) (k : StmtKind) → roll-StmtKind x ≡ k → kind_piece k ≡ kind_row (map-StmtKind _ _ _ _ kind_piece piece x)
kind_is x k e = ap kind_piece (sym e) ∙ fold-roll-StmtKind Piece Piece kind_row statement_row x

module _ (at : ℕ) where
  abbrev stmt : StmtKind → Stmt
  stmt k = record { at = at; kind = k }

  pub piece-Assign : (x : Name) (a : Operand) → piece (stmt (Assign x a)) ≡ table.assignment x a
  piece-Assign x a = piece-kind (stmt (Assign x a)) ∙ kind_is (StmtKind-F.Assign x a) _ (rolls-Assign x a)

  pub piece-Compute : (x : Name) (op : Op) (a b : Operand) → piece (stmt (Compute x op a b)) ≡ table.computation x op a b
  piece-Compute x op a b = piece-kind (stmt (Compute x op a b)) ∙ kind_is (StmtKind-F.Compute x op a b) _ (rolls-Compute x op a b)

  pub piece-Load : (x : Name) (p : Place) → piece (stmt (Load x p)) ≡ table.load x p
  piece-Load x p = piece-kind (stmt (Load x p)) ∙ kind_is (StmtKind-F.Load x p) _ (rolls-Load x p)

  pub piece-LoadByte : (x : Name) (p : Place) → piece (stmt (LoadByte x p)) ≡ table.load_byte x p
  piece-LoadByte x p = piece-kind (stmt (LoadByte x p)) ∙ kind_is (StmtKind-F.LoadByte x p) _ (rolls-LoadByte x p)

  pub piece-Store : (p : Place) (a : Operand) → piece (stmt (Store p a)) ≡ table.store p a
  piece-Store p a = piece-kind (stmt (Store p a)) ∙ kind_is (StmtKind-F.Store p a) _ (rolls-Store p a)

  pub piece-StoreByte : (p : Place) (a : Operand) → piece (stmt (StoreByte p a)) ≡ table.store_byte p a
  piece-StoreByte p a = piece-kind (stmt (StoreByte p a)) ∙ kind_is (StmtKind-F.StoreByte p a) _ (rolls-StoreByte p a)

  pub piece-Return : (a : Operand) → piece (stmt (Return a)) ≡ table.answer a
  piece-Return a = piece-kind (stmt (Return a)) ∙ kind_is (StmtKind-F.Return a) _ (rolls-Return a)

  pub piece-Hint : (h : Hint) → piece (stmt (HintStmt h)) ≡ nothing
  piece-Hint h = piece-kind (stmt (HintStmt h)) ∙ kind_is (StmtKind-F.Hint h) _ (rolls-Hint h)

  pub piece-Call : (place : ℕ) (x : Name) (t : Operand) (v : Option Name) (args : List Operand) (hs : List Hint) (A : Assertion) → piece (stmt (Call place x t v args hs A)) ≡ table.call x t args
  piece-Call place x t v args hs A = piece-kind (stmt (Call place x t v args hs A)) ∙ kind_is (StmtKind-F.Call place x t v args hs A) _ (rolls-Call place x t v args hs A)

  pub piece-choice : (t : Test) (ys ns : List Stmt) (j : Option Join) → piece (stmt (If t ys ns j)) ≡ table.choice t (body_piece ys) (body_piece ns)
  piece-choice t ys ns j = piece-kind (stmt (If t ys ns j)) ∙ piece-If t ys ns j

  pub piece-loop : (t : Test) (place : ℕ) (I : Assertion) (body : List Stmt) → piece (stmt (While t place I body)) ≡ table.loop t I (body_piece body)
  piece-loop t place I body = piece-kind (stmt (While t place I body)) ∙ piece-While t place I body
