-- The image of modules reads no assertion, hint or predicate: it is that of their skeletons.
use Rattle.std.proofs.Common.{◌≡◌, ℕ, ◌+◌, Bool, true, List, [], ◌∷◌, ◌++◌, map, length, codes, bytes_eq, if◌then◌else◌, ◌&&◌, ◌||◌, refl, sym, ◌∙◌, ap, ap₂, subst}
use Rattle.std.proofs.lemmas.List.{map-append}
use Rattle.bed_lang.specs.declared.word.Name.{Name}
use Rattle.bed_lang.specs.declared.word.Seq.{Nil}
use Rattle.bed_lang.specs.declared.module.Operand.TheVariants.{Local}
use Rattle.bed_lang.specs.declared.logic.Assertion.{Assertion}
use Rattle.bed_lang.specs.declared.module.Test.{Test}
use Rattle.bed_lang.specs.declared.module.Signature.{Signature}
use Rattle.bed_lang.specs.declared.module.Function.{Function}
use Rattle.bed_lang.specs.declared.module.Module.{Module}
use Rattle.bed_lang.specs.declared.statement.Stmt.{Stmt, ind-Stmt, fold-roll-Stmt, fold_out-Stmt}
use Rattle.bed_lang.specs.declared.statement.StmtKind.{StmtKind, StmtKind-F, roll-StmtKind, map-StmtKind, fold-roll-StmtKind}
use Rattle.bed_lang.specs.declared.statement.StmtKind.TheVariants.{rolls-Assign, rolls-Compute, rolls-Load, rolls-LoadByte, rolls-Store, rolls-StoreByte, rolls-Call, rolls-If, rolls-While, rolls-Return, rolls-Hint, rolls-Find, rolls-Walk}
use Rattle.bed_lang.specs.Numbers.{word_bytes}
use Rattle.bed_lang.specs.Skeletons.{no_assertion, no_hint, join_skeleton, kind_skeleton_step, statement_skeleton_step, kind_skeleton, statement_skeleton, function_skeleton, signature_skeleton, skeleton}
use Rattle.bed_table.specs.Pieces.{Piece, Head, nothing, sequence, falls_after, size_of, bytes_of, heads_of}
use Rattle.bed_table.specs.CodeTable.{assignment, load, choice, loop, test_size, jump_size, entry}
use Rattle.bed_table.specs.ListLoops.{list_invariant, not_yet, list_loop, not_null, is_key, field_at}
use Rattle.bed_table.specs.Code.{kind_row, statement_row, kind_piece, piece, body_piece, params_of, function_piece}
use Rattle.bed_table.specs.Layout.{Defined, define, defined_in, all_defined, Placed, function_size, placed_from, placed, total_size, code_length, address_of, function_label, import_label, all_labels, label_address, code_of, code, heads_at, exports, imported, is_among, outside_names, outside_imports}
use Rattle.bed_table.specs.Image.{short, loop_symbols, function_symbols, symbols_of, import_symbols, symbols, table_bytes, image}
use Rattle.bed_table.specs.Laws.{ImagesReadSkeletons, CodeReadsSkeletons}

-- ---- pieces without their invariants

abbrev bare : Head → Head
bare h = record { address = h.address; invariant = no_assertion }

abbrev blank : Piece → Piece
blank p = record { falls = p.falls; size = p.size; bytes = p.bytes; heads = λ at. map bare (p.heads at) }

blank_choice : (t : Test) (p q : Piece) → blank (choice t p q) ≡ choice t (blank p) (blank q)
blank_choice t p q i = record {
  falls = (choice t p q).falls;
  size = (choice t p q).size;
  bytes = (choice t p q).bytes;
  heads = λ at. map-append bare (p.heads (at + test_size t)) (q.heads (at + test_size t + p.size + jump_size p.falls)) i;
}

blank_loop : (t : Test) (A : Assertion) (p : Piece) → blank (loop t A p) ≡ loop t no_assertion (blank p)
blank_loop t A p = refl

blank_falls : (b : Bool) (ps : List Piece) → falls_after b ps ≡ falls_after b (map blank ps)
blank_falls b [] = refl
blank_falls b (p ∷ ps) = blank_falls p.falls ps

blank_size : (ps : List Piece) → size_of ps ≡ size_of (map blank ps)
blank_size [] = refl
blank_size (p ∷ ps) = ap (λ n. p.size + n) (blank_size ps)

blank_bytes : (locals : List Name) (labels : List ℕ → ℕ) (at : ℕ) (ps : List Piece)
    → bytes_of locals labels at ps ≡ bytes_of locals labels at (map blank ps)
blank_bytes locals labels at [] = refl
blank_bytes locals labels at (p ∷ ps) = ap (λ l. p.bytes locals labels at ++ l) (blank_bytes locals labels (at + p.size) ps)

blank_heads : (at : ℕ) (ps : List Piece) → map bare (heads_of at ps) ≡ heads_of at (map blank ps)
blank_heads at [] = refl
blank_heads at (p ∷ ps) =
    map-append bare (p.heads at) (heads_of (at + p.size) ps) ∙ ap (λ l. map bare (p.heads at) ++ l) (blank_heads (at + p.size) ps)

blank_sequence : (ps : List Piece) → blank (sequence ps) ≡ sequence (map blank ps)
blank_sequence ps i = record {
  falls = blank_falls true ps i;
  size = blank_size ps i;
  bytes = λ locals labels at. blank_bytes locals labels at ps i;
  heads = λ at. blank_heads at ps i;
}

blank_list_loop : (n v p : Name) (A : Assertion) (visit : Piece) → blank (list_loop n v p A visit) ≡ list_loop n v p no_assertion (blank visit)
blank_list_loop n v p A visit =
    let turn : List Piece = load v (field_at n 0) ∷ visit ∷ load v (field_at n 4) ∷ assignment n (Local v) ∷ [] in
    blank_sequence (assignment n (Local p) ∷ loop (not_null n) A (sequence turn) ∷ [])
    ∙ ap (λ q. sequence (assignment n (Local p) ∷ loop (not_null n) no_assertion q ∷ [])) (blank_sequence turn)

-- pieces that are alike but for invariants are so in a row
alike_choice : (t : Test) (p q r s : Piece) → blank p ≡ blank r → blank q ≡ blank s → blank (choice t p q) ≡ blank (choice t r s)
alike_choice t p q r s e f = blank_choice t p q ∙ (ap₂ (λ x y. choice t x y) e f ∙ sym (blank_choice t r s))

alike_loop : (t : Test) (A B : Assertion) (p r : Piece) → blank p ≡ blank r → blank (loop t A p) ≡ blank (loop t B r)
alike_loop t A B p r e = ap (λ x. loop t no_assertion x) e

alike_list_loop : (n v p : Name) (A B : Assertion) (q r : Piece) → blank q ≡ blank r → blank (list_loop n v p A q) ≡ blank (list_loop n v p B r)
alike_list_loop n v p A B q r e = blank_list_loop n v p A q ∙ (ap (λ x. list_loop n v p no_assertion x) e ∙ sym (blank_list_loop n v p B r))

alike_sequence : (ps qs : List Piece) → map blank ps ≡ map blank qs → blank (sequence ps) ≡ blank (sequence qs)
alike_sequence ps qs e = blank_sequence ps ∙ (ap sequence e ∙ sym (blank_sequence qs))

-- ---- the code of a skeleton

-- a statement, and what it does, with the piece of its skeleton
abbrev Kept : Stmt → Type 0
Kept s = blank (piece (statement_skeleton s)) ≡ blank (piece s)

abbrev KeptKind : StmtKind → Type 0
KeptKind k = blank (kind_piece (kind_skeleton k)) ≡ blank (kind_piece k)

-- the piece of what a row stands for
row_piece : (x : StmtKind-F StmtKind Stmt) (k : StmtKind) → roll-StmtKind x ≡ k → kind_piece k ≡ kind_row (map-StmtKind _ _ _ _ kind_piece piece x)
row_piece x k e = ap kind_piece (sym e) ∙ fold-roll-StmtKind Piece Piece kind_row statement_row x

kept_pieces : (ss : List ((s : Stmt) × Kept s))
    → map blank (map piece (map statement_skeleton (map (λ s. s.0) ss))) ≡ map blank (map piece (map (λ s. s.0) ss))
kept_pieces [] = refl
kept_pieces (s ∷ ss) = ap₂ (λ p ps. p ∷ ps) s.1 (kept_pieces ss)

kept_sequence : (ss : List ((s : Stmt) × Kept s))
    → blank (sequence (map piece (map statement_skeleton (map (λ s. s.0) ss)))) ≡ blank (sequence (map piece (map (λ s. s.0) ss)))
kept_sequence ss = alike_sequence (map piece (map statement_skeleton (map (λ s. s.0) ss))) (map piece (map (λ s. s.0) ss)) (kept_pieces ss)

-- a row over the skeletons of what is in it has the piece of the row
layer : (y : StmtKind-F ((k : StmtKind) × KeptKind k) ((s : Stmt) × Kept s))
    → blank (kind_piece (kind_skeleton_step (map-StmtKind _ _ _ _ kind_skeleton statement_skeleton (map-StmtKind _ _ _ _ (λ e. e.0) (λ e. e.0) y))))
    ≡ blank (kind_row (map-StmtKind _ _ _ _ kind_piece piece (map-StmtKind _ _ _ _ (λ e. e.0) (λ e. e.0) y)))
layer (StmtKind-F.Assign x a) = ap blank (row_piece (StmtKind-F.Assign x a) _ (rolls-Assign x a))
layer (StmtKind-F.Compute x op a b) = ap blank (row_piece (StmtKind-F.Compute x op a b) _ (rolls-Compute x op a b))
layer (StmtKind-F.Load x p) = ap blank (row_piece (StmtKind-F.Load x p) _ (rolls-Load x p))
layer (StmtKind-F.LoadByte x p) = ap blank (row_piece (StmtKind-F.LoadByte x p) _ (rolls-LoadByte x p))
layer (StmtKind-F.Store p b) = ap blank (row_piece (StmtKind-F.Store p b) _ (rolls-Store p b))
layer (StmtKind-F.StoreByte p b) = ap blank (row_piece (StmtKind-F.StoreByte p b) _ (rolls-StoreByte p b))
layer (StmtKind-F.Call place into target via args hints after) =
    ap blank (row_piece (StmtKind-F.Call place into target via args [] no_assertion) _ (rolls-Call place into target via args [] no_assertion))
layer (StmtKind-F.If test ys ns join) =
    let us : List Stmt = map statement_skeleton (map (λ s. s.0) ys) in
    let vs : List Stmt = map statement_skeleton (map (λ s. s.0) ns) in
    ap blank (row_piece (StmtKind-F.If test us vs (join_skeleton join)) _ (rolls-If test us vs (join_skeleton join)))
    ∙ alike_choice test (sequence (map piece us)) (sequence (map piece vs)) (sequence (map piece (map (λ s. s.0) ys))) (sequence (map piece (map (λ s. s.0) ns)))
    (kept_sequence ys) (kept_sequence ns)
layer (StmtKind-F.While test place invariant body) =
    let us : List Stmt = map statement_skeleton (map (λ s. s.0) body) in
    ap blank (row_piece (StmtKind-F.While test place no_assertion us) _ (rolls-While test place no_assertion us))
    ∙ alike_loop test no_assertion invariant (sequence (map piece us)) (sequence (map piece (map (λ s. s.0) body))) (kept_sequence body)
layer (StmtKind-F.Return a) = ap blank (row_piece (StmtKind-F.Return a) _ (rolls-Return a))
layer (StmtKind-F.Hint h) = ap blank (row_piece (StmtKind-F.Hint no_hint) _ (rolls-Hint no_hint))
layer (StmtKind-F.Find n v a p s u t keep body) =
    let us : List Stmt = map statement_skeleton (map (λ e. e.0) body) in
    let old : Piece = sequence (map piece (map (λ e. e.0) body)) in
    let new : Piece = sequence (map piece us) in
    ap blank (row_piece (StmtKind-F.Find n v a p Nil u t no_assertion us) _ (rolls-Find n v a p Nil u t no_assertion us))
    ∙ alike_list_loop n v p (list_invariant n p Nil u t (not_yet a u) no_assertion) (list_invariant n p s u t (not_yet a u) keep)
    (choice (is_key v a) new nothing) (choice (is_key v a) old nothing)
    (alike_choice (is_key v a) new nothing old nothing (kept_sequence body) refl)
layer (StmtKind-F.Walk n v p s u t keep body) =
    let us : List Stmt = map statement_skeleton (map (λ e. e.0) body) in
    ap blank (row_piece (StmtKind-F.Walk n v p Nil u t no_assertion us) _ (rolls-Walk n v p Nil u t no_assertion us))
    ∙ alike_list_loop n v p (list_invariant n p Nil u t [] no_assertion) (list_invariant n p s u t [] keep)
    (sequence (map piece us)) (sequence (map piece (map (λ e. e.0) body))) (kept_sequence body)

kept_statement : (s : Stmt) → Kept s
kept_statement =
    ind-Stmt KeptKind Kept
    (λ x y is.
    ap (λ k. blank (kind_piece k)) (fold-roll-StmtKind StmtKind Stmt kind_skeleton_step statement_skeleton_step x)
    ∙ (subst (λ z. blank (kind_piece (kind_skeleton_step (map-StmtKind _ _ _ _ kind_skeleton statement_skeleton z)))
    ≡ blank (kind_row (map-StmtKind _ _ _ _ kind_piece piece z))) is (layer y)
    ∙ ap blank (sym (fold-roll-StmtKind Piece Piece kind_row statement_row x))))
    (λ x y is.
    ap (λ s. blank (piece s)) (fold-roll-Stmt StmtKind Stmt kind_skeleton_step statement_skeleton_step x)
    ∙ (subst (λ z. blank (piece (record { at = z.at; kind = kind_skeleton z.kind })) ≡ blank (kind_piece z.kind)) is
    (ap blank (fold_out-Stmt Piece Piece kind_row statement_row _) ∙ y.kind.1)
    ∙ ap blank (sym (fold-roll-Stmt Piece Piece kind_row statement_row x))))

kept_body : (body : List Stmt) → map blank (map piece (map statement_skeleton body)) ≡ map blank (map piece body)
kept_body [] = refl
kept_body (s ∷ ss) = ap₂ (λ p ps. p ∷ ps) (kept_statement s) (kept_body ss)

kept_function : (f : Function) → blank (function_piece (function_skeleton f)) ≡ blank (function_piece f)
kept_function f =
    let new : Piece = body_piece (function_skeleton f).body in
    alike_sequence (entry ∷ new ∷ []) (entry ∷ body_piece f.body ∷ [])
    (ap (λ p. blank entry ∷ p ∷ []) (alike_sequence (map piece (map statement_skeleton f.body)) (map piece f.body) (kept_body f.body)))

-- ---- the layout of skeletons

kept_params : (ss : List Signature) (name : List ℕ) → params_of (map signature_skeleton ss) name ≡ params_of ss name
kept_params [] name = refl
kept_params (S ∷ ss) name = ap (λ xs. if bytes_eq S.name.bytes name then S.params else xs) (kept_params ss name)

abbrev bare_defined : Defined → Defined
bare_defined d = record { function = function_skeleton d.function; locals = d.locals }

abbrev bare_placed : Placed → Placed
bare_placed p = record { defined = bare_defined p.defined; address = p.address }

kept_defines : (ss : List Signature) (fs : List Function)
    → map (define (map signature_skeleton ss)) (map function_skeleton fs) ≡ map bare_defined (map (define ss) fs)
kept_defines ss [] = refl
kept_defines ss (f ∷ fs) =
    ap₂ (λ xs ds. (record { function = function_skeleton f; locals = xs ++ f.locals }) ∷ ds) (kept_params ss f.signature.bytes) (kept_defines ss fs)

kept_defined : (ms : List Module) → all_defined (map skeleton ms) ≡ map bare_defined (all_defined ms)
kept_defined [] = refl
kept_defined (m ∷ ms) =
    ap₂ (λ a b. a ++ b) (kept_defines m.signatures m.functions) (kept_defined ms) ∙ sym (map-append bare_defined (defined_in m) (all_defined ms))

kept_size : (d : Defined) → function_size (bare_defined d) ≡ function_size d
kept_size d = ap (λ p. p.size) (kept_function d.function)

kept_total : (ds : List Defined) → total_size (map bare_defined ds) ≡ total_size ds
kept_total [] = refl
kept_total (d ∷ ds) = ap₂ (λ a b. a + b) (kept_size d) (kept_total ds)

kept_placed_from : (at : ℕ) (ds : List Defined) → placed_from at (map bare_defined ds) ≡ map bare_placed (placed_from at ds)
kept_placed_from at [] = refl
kept_placed_from at (d ∷ ds) =
    ap (λ ps. (record { defined = bare_defined d; address = at }) ∷ ps)
    (ap (λ n. placed_from (at + n) (map bare_defined ds)) (kept_size d) ∙ kept_placed_from (at + function_size d) ds)

kept_labels : (ps : List Placed) → map function_label (map bare_placed ps) ≡ map function_label ps
kept_labels [] = refl
kept_labels (p ∷ ps) = ap (λ ls. function_label p ∷ ls) (kept_labels ps)

kept_code_of : (labels : List ℕ → ℕ) (ps : List Placed) → code_of labels (map bare_placed ps) ≡ code_of labels ps
kept_code_of labels [] = refl
kept_code_of labels (p ∷ ps) =
    ap₂ (λ a b. a ++ b) (ap (λ q. q.bytes p.defined.locals labels p.address) (kept_function p.defined.function)) (kept_code_of labels ps)

bare_addresses : (hs : List Head) → map (λ h. h.address) (map bare hs) ≡ map (λ h. h.address) hs
bare_addresses [] = refl
bare_addresses (h ∷ hs) = ap (λ l. h.address ∷ l) (bare_addresses hs)

kept_heads : (p : Placed) → map (λ h. h.address) (heads_at (bare_placed p)) ≡ map (λ h. h.address) (heads_at p)
kept_heads p =
    sym (bare_addresses (heads_at (bare_placed p)))
    ∙ (ap (λ q. map (λ h. h.address) (q.heads p.address)) (kept_function p.defined.function) ∙ bare_addresses (heads_at p))

kept_symbols_of : (ps : List Placed) → symbols_of (map bare_placed ps) ≡ symbols_of ps
kept_symbols_of [] = refl
kept_symbols_of (p ∷ ps) =
    let all : function_symbols (bare_placed p) ≡ function_symbols p =
    ap (λ l. record { kind = if p.defined.function.exported then 1 else 0; address = p.address; name = short p.defined.function.name.bytes }
    ∷ loop_symbols p.defined.function.name.bytes 1 l) (kept_heads p) in
    ap₂ (λ a b. a ++ b) all (kept_symbols_of ps)

kept_imported : (ms : List Module) → imported (map skeleton ms) ≡ imported ms
kept_imported [] = refl
kept_imported (m ∷ ms) = ap (λ l. map (λ i. i.name) m.imports ++ l) (kept_imported ms)

kept_exports : (ds : List Defined) (name : List ℕ) → exports (map bare_defined ds) name ≡ exports ds name
kept_exports [] name = refl
kept_exports (d ∷ ds) name = ap (λ b. (d.function.exported && bytes_eq d.function.name.bytes name) || b) (kept_exports ds name)

kept_outside : (ds : List Defined) (seen ns : List Name) → outside_names (map bare_defined ds) seen ns ≡ outside_names ds seen ns
kept_outside ds seen [] = refl
kept_outside ds seen (n ∷ ns) =
    ap (λ b. outside_names (map bare_defined ds) (if b || is_among seen n.bytes then seen else (seen ++ n ∷ [])) ns) (kept_exports ds n.bytes)
    ∙ kept_outside ds (if exports ds n.bytes || is_among seen n.bytes then seen else (seen ++ n ∷ [])) ns

module _ (ms : List Module) (base : ℕ) (imports : List (Name × ℕ)) where
  kept_length : code_length (map skeleton ms) ≡ code_length ms
  kept_length = ap total_size (kept_defined ms) ∙ kept_total (all_defined ms)

  kept_placed : placed (map skeleton ms) base ≡ map bare_placed (placed ms base)
  kept_placed = ap (placed_from base) (kept_defined ms) ∙ kept_placed_from base (all_defined ms)

  kept_all_labels : all_labels (map skeleton ms) base imports ≡ all_labels ms base imports
  kept_all_labels = ap (λ ls. ls ++ map import_label imports) (ap (map function_label) kept_placed ∙ kept_labels (placed ms base))

  pub code_reads : code (map skeleton ms) base imports ≡ code ms base imports
  code_reads = ap₂ (λ ls ps. code_of (address_of ls) ps) kept_all_labels kept_placed ∙ kept_code_of (label_address ms base imports) (placed ms base)

  kept_names : outside_imports (map skeleton ms) ≡ outside_imports ms
  kept_names = ap₂ (λ ds ns. outside_names ds [] ns) (kept_defined ms) (kept_imported ms) ∙ kept_outside (all_defined ms) [] (imported ms)

  kept_symbols : symbols (map skeleton ms) base imports ≡ symbols ms base imports
  kept_symbols =
      ap₂ (λ a b. a ++ b) (ap symbols_of kept_placed ∙ kept_symbols_of (placed ms base))
      (ap₂ (λ ls ns. import_symbols (address_of ls) ns) kept_all_labels kept_names)

  pub image_reads : image (map skeleton ms) base imports ≡ image ms base imports
  image_reads =
      ap₂ (λ n l. codes "BIM1" ++ (word_bytes base ++ (word_bytes n ++ l))) kept_length
      (ap₂ (λ ss c. word_bytes (length ss) ++ (table_bytes ss ++ c)) kept_symbols code_reads)

pub images_read_skeletons : ImagesReadSkeletons
images_read_skeletons = image_reads

pub code_reads_skeletons : CodeReadsSkeletons
code_reads_skeletons = code_reads
