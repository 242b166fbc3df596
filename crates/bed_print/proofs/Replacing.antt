-- Trees whose places differ: setting places to 0 goes through the productions, so a text with other places has the same tree,
-- places aside.
use Rattle.std.proofs.Common.{◌≡◌, ℕ, Bool, true, false, List, [], ◌∷◌, ◌++◌, map, Option, inl, inr, refl, sym, ap, ◌∙◌, subst}
use Rattle.bed_grammar.specs.Grammar.{Rhs, token, empty, seq, Value, Marked, Derives, shift, epsilon, sequence, left, right, expand}
use Rattle.bed_lang.specs.declared.word.Name.{Name}
use Rattle.bed_lang.specs.declared.word.Word as word
use Rattle.bed_lang.specs.declared.word.Var.TheVariants as var
use Rattle.bed_lang.specs.declared.word.Seq as sequences
use Rattle.bed_lang.specs.declared.module.Rel as rels
use Rattle.bed_lang.specs.declared.module.Rel.TheVariants as rel
use Rattle.bed_lang.specs.declared.limit.Which.{Which}
use Rattle.bed_lex.specs.declared.token.Token.{Token}
use Rattle.bed_lex.specs.declared.token.Kind.{Kind}
use Rattle.bed_lex.specs.declared.token.Kind.TheVariants as kind
use Rattle.bed_read.specs.declared.parts.Piece.{Piece}
use Rattle.bed_read.specs.declared.parts.Piece.TheVariants as piece
use Rattle.bed_read.specs.declared.parts.Source as sources
use Rattle.bed_read.specs.declared.parts.Source.TheVariants as source
use Rattle.bed_read.specs.Classes.{class}
use Rattle.bed_read.specs.Trees.{number_of, name_of, moved, word_of, place_of, added, joined, summed, word_argument, compared, membership, points_to, cell_at, assigned}
use Rattle.bed_read.specs.Written as grammar
use Rattle.bed_read.specs.Written.{N, Tree, written, written_rule, written_action}
use Rattle.bed_print.proofs.Places.{bare_kind, bare_name, bare_word, bare_seq, bare_arg, bare_pure, bare_term, bare_stmt_kind}
use Rattle.bed_print.proofs.Nonterminals.{bare_piece, bare_part, bare_source, bare, bare_token, bare_value}
use Rattle.bed_print.proofs.WordTrees.{bare_word-Number, bare_word-Var, bare_word-Label, bare_word-Times, bare_word-added, bare_seq-Var, bare_seq-Nil, bare_seq-Cons, bare_seq-App}
use Rattle.bed_print.proofs.StmtTrees.{bare_stmt-of, bare-Assign, bare-Compute, bare-Load, bare-LoadByte, bare-Store, bare-StoreByte, bare-Call, bare-If, bare-While, bare-Return, bare-Hint, bare-Find, bare-Walk}
use Rattle.bed_print.proofs.Clean.{class-bare}

number_of-bare : (k : Kind) → number_of (bare_kind k) ≡ number_of k
number_of-bare (kind.Name x) = refl
number_of-bare (kind.Number n) = refl
number_of-bare (kind.Word w) = refl
number_of-bare (kind.Fresh n) = refl

name_of-bare : (k : Kind) → bare_name (name_of k) ≡ name_of (bare_kind k)
name_of-bare (kind.Name x) = refl
name_of-bare (kind.Number n) = refl
name_of-bare (kind.Word w) = refl
name_of-bare (kind.Fresh n) = refl

word_of-bare : (p : Piece) → bare_word (word_of p) ≡ word_of (bare_piece p)
word_of-bare (piece.Name x) = bare_word-Var (var.Named x)
word_of-bare (piece.Word at w) = refl

place_of-bare : (p : Piece) → place_of (bare_piece p) ≡ 0
place_of-bare (piece.Name x) = refl
place_of-bare (piece.Word at w) = refl

joined-bare : (p : Piece) (b : Bool × word.Word) → bare_piece (joined p b) ≡ joined (bare_piece p) (bare_part b)
joined-bare p b =
    ap (piece.Word 0) (bare_word-added (word_of p) b.1 b.0 ∙ ap (λ z. added z (bare_part b)) (word_of-bare p))
    ∙ sym (ap (λ z. piece.Word z (added (word_of (bare_piece p)) (bare_part b))) (place_of-bare p))

summed-bare : (p : Piece) (bs : List (Bool × word.Word)) → bare_piece (summed p bs) ≡ summed (bare_piece p) (map bare_part bs)
summed-bare p [] = refl
summed-bare p (b ∷ bs) = summed-bare (joined p b) bs ∙ ap (λ z. summed z (map bare_part bs)) (joined-bare p b)

compared-bare : (a : word.Word) (r : rels.Rel) (b : word.Word) → bare_pure (compared a r b) ≡ compared (bare_word a) r (bare_word b)
compared-bare a rel.Equal b = refl
compared-bare a rel.Unequal b = refl
compared-bare a rel.Less b = refl
compared-bare a rel.AtMost b = refl

membership-bare : (a : word.Word) (i : Bool) (s : sequences.Seq) → bare_pure (membership a i s) ≡ membership (bare_word a) i (bare_seq s)
membership-bare a true s = refl
membership-bare a false s = refl

points_to-bare : (e : word.Word) (i : Bool) (v : word.Word) → bare_term (points_to e i v) ≡ points_to (bare_word e) i (bare_word v)
points_to-bare e true v = refl
points_to-bare e false v = refl

cell-bare : (p : Piece) (c : Bool × word.Word) → (0, bare_term (cell_at p c).1) ≡ cell_at (bare_piece p) (c.0, bare_word c.1)
cell-bare p c =
    ap (λ z. (0, z)) (points_to-bare (word_of p) c.0 c.1 ∙ ap (λ z. points_to z c.0 (bare_word c.1)) (word_of-bare p))
    ∙ sym (ap (λ z. (z, points_to (word_of (bare_piece p)) c.0 (bare_word c.1))) (place_of-bare p))

word_argument-bare : (p : Piece) → bare_arg (word_argument p) ≡ word_argument (bare_piece p)
word_argument-bare (piece.Name x) = refl
word_argument-bare (piece.Word at w) = refl

assigned-bare : (x : Name) (s : sources.Source) → bare_stmt_kind (assigned x s) ≡ assigned (bare_name x) (bare_source s)
assigned-bare x (source.Operand a) = bare-Assign x a
assigned-bare x (source.Compute o a b) = bare-Compute x o a b
assigned-bare x (source.Load p) = bare-Load x p
assigned-bare x (source.LoadByte p) = bare-LoadByte x p
assigned-bare x (source.Call c) = bare-Call c.place x c.target c.via c.args c.hints c.after

-- the tree of a production, with every place set to 0, is that of its value with every place set to 0
pub bare_action : (n : N) (v : Value Token Tree (written_rule n)) → bare n (written_action n v) ≡ written_action n (bare_value (written_rule n) v)
bare_action grammar.Module v = refl
bare_action grammar.Signatures (inl v) = refl
bare_action grammar.Signatures (inr v) = refl
bare_action grammar.Signature v = refl
bare_action grammar.NameList (inl v) = refl
bare_action grammar.NameList (inr v) = refl
bare_action (grammar.Names w k) (inl v) = refl
bare_action (grammar.Names w k) (inr v) = refl
bare_action grammar.Reserving (inl (v, inl t)) = sym (number_of-bare t.kind)
bare_action grammar.Reserving (inl (v, inr t)) = sym (number_of-bare t.kind)
bare_action grammar.Reserving (inr v) = refl
bare_action grammar.For (inl v) = refl
bare_action grammar.For (inr v) = refl
bare_action (grammar.Bind m) v = refl
bare_action grammar.Binds v = refl
bare_action (grammar.MoreBinds k) (inl v) = refl
bare_action (grammar.MoreBinds k) (inr v) = refl
bare_action grammar.BindList (inl v) = refl
bare_action grammar.BindList (inr v) = refl
bare_action grammar.Sort (inl v) = refl
bare_action grammar.Sort (inr v) = refl
bare_action grammar.Predicates (inl v) = refl
bare_action grammar.Predicates (inr v) = refl
bare_action grammar.Predicate v = refl
bare_action (grammar.Cases k) (inl v) = refl
bare_action (grammar.Cases k) (inr v) = refl
bare_action grammar.Imports (inl v) = refl
bare_action grammar.Imports (inr v) = refl
bare_action grammar.Import v = refl
bare_action grammar.Functions (inl v) = refl
bare_action grammar.Functions (inr v) = refl
bare_action grammar.Function v = refl
bare_action grammar.Export (inl v) = refl
bare_action grammar.Export (inr v) = refl
bare_action grammar.Locals (inl v) = refl
bare_action grammar.Locals (inr v) = refl
bare_action (grammar.Body n) v = refl
bare_action (grammar.Statements n) (inl v) = refl
bare_action (grammar.Statements n) (inr v) = refl
bare_action (grammar.Assertion m) (inl v) = refl
bare_action (grammar.Assertion m) (inr v) = refl
bare_action (grammar.Terms k) (inl v) = refl
bare_action (grammar.Terms k) (inr v) = refl
bare_action (grammar.Term m) (inl v) = refl
bare_action (grammar.Term m) (inr (inl v)) = refl
bare_action (grammar.Term m) (inr (inr (inl v))) = refl
bare_action (grammar.Term m) (inr (inr (inr (inl v)))) = refl
bare_action (grammar.Term m) (inr (inr (inr (inr (inl v))))) = cell-bare v.0 (true, v.1.1)
bare_action (grammar.Term m) (inr (inr (inr (inr (inr v))))) = cell-bare v.0 (false, v.1.1)
bare_action (grammar.PureTerm m) v = refl
bare_action (grammar.Block m) v = refl
bare_action (grammar.Pure n) (inl v) = compared-bare v.0 v.1.0 v.1.1
bare_action (grammar.Pure n) (inr (inl v)) = refl
bare_action (grammar.Pure n) (inr (inr (inl v))) = membership-bare v.0 v.1.0 v.1.1
bare_action (grammar.Pure n) (inr (inr (inr v))) = refl
bare_action grammar.Rel (inl v) = refl
bare_action grammar.Rel (inr (inl v)) = refl
bare_action grammar.Rel (inr (inr (inl v))) = refl
bare_action grammar.Rel (inr (inr (inr v))) = refl
bare_action grammar.Membership (inl v) = refl
bare_action grammar.Membership (inr v) = refl
bare_action (grammar.CodeFact n) v = refl
bare_action (grammar.Word n) v = word_of-bare v
bare_action (grammar.Sum m n) v = summed-bare v.0 v.1
bare_action (grammar.Sums k n) (inl v) = ap (λ z. (v.0, z) ∷ map bare_part v.1.1) (word_of-bare v.1.0)
bare_action (grammar.Sums k n) (inr v) = refl
bare_action grammar.Sign (inl v) = refl
bare_action grammar.Sign (inr v) = refl
bare_action (grammar.Part m n) (inl v) = ap (piece.Word 0) (bare_word-Number v.1)
bare_action (grammar.Part m n) (inr (inl v)) = refl
bare_action (grammar.Part m n) (inr (inr (inl v))) = ap (piece.Word 0) (bare_word-Label v.1)
bare_action (grammar.Part m n) (inr (inr (inr (inl v)))) = ap (piece.Word 0) (bare_word-Var (var.Old (moved v.0.at v.1)))
bare_action (grammar.Part m n) (inr (inr (inr (inr (inl v))))) = ap (piece.Word 0) (bare_word-Var (var.Answer v.at))
bare_action (grammar.Part m n) (inr (inr (inr (inr (inr (inl v)))))) = ap (piece.Word 0) (bare_word-Times v.1.0.1 v.1.1.1.0)
bare_action (grammar.Part m n) (inr (inr (inr (inr (inr (inr v)))))) = refl
bare_action (grammar.Seq n) (inl v) = bare_seq-Var (var.Named v)
bare_action (grammar.Seq n) (inr v) = refl
bare_action (grammar.PlainSeq n) (inl v) = ap (λ z. (0, z)) bare_seq-Nil
bare_action (grammar.PlainSeq n) (inr (inl v)) = ap (λ z. (0, z)) (bare_seq-Cons v.1.1.0 v.1.1.1.1.0)
bare_action (grammar.PlainSeq n) (inr (inr v)) = ap (λ z. (0, z)) (bare_seq-App v.1.1.0 v.1.1.1.1.0)
bare_action (grammar.Arg n) (inl v) = word_argument-bare v
bare_action (grammar.Arg n) (inr (inl v)) = refl
bare_action (grammar.Arg n) (inr (inr v)) = refl
bare_action (grammar.Args n) (inl v) = refl
bare_action (grammar.Args n) (inr v) = refl
bare_action (grammar.MoreArgs n) (inl v) = refl
bare_action (grammar.MoreArgs n) (inr v) = refl
bare_action (grammar.HoleArg n) (inl v) = refl
bare_action (grammar.HoleArg n) (inr v) = refl
bare_action (grammar.HoleArgs n) (inl v) = refl
bare_action (grammar.HoleArgs n) (inr v) = refl
bare_action (grammar.MoreHoleArgs n) (inl v) = refl
bare_action (grammar.MoreHoleArgs n) (inr v) = refl
bare_action grammar.Operand (inl v) = refl
bare_action grammar.Operand (inr (inl v)) = refl
bare_action grammar.Operand (inr (inr v)) = refl
bare_action grammar.Operands (inl v) = refl
bare_action grammar.Operands (inr v) = refl
bare_action grammar.MoreOperands (inl v) = refl
bare_action grammar.MoreOperands (inr v) = refl
bare_action grammar.Test v = refl
bare_action grammar.Place v = refl
bare_action grammar.Offset (inl v) = refl
bare_action grammar.Offset (inr v) = refl
bare_action (grammar.Statement n) (inl v) = refl
bare_action (grammar.Statement n) (inr (inl v)) = refl
bare_action (grammar.Statement n) (inr (inr (inl v))) = refl
bare_action (grammar.Statement n) (inr (inr (inr (inl v)))) = refl
bare_action (grammar.Statement n) (inr (inr (inr (inr (inl v))))) = refl
bare_action (grammar.Statement n) (inr (inr (inr (inr (inr (inl v)))))) = refl
bare_action (grammar.Statement n) (inr (inr (inr (inr (inr (inr (inl v))))))) = refl
bare_action (grammar.Statement n) (inr (inr (inr (inr (inr (inr (inr (inl v)))))))) = refl
bare_action (grammar.Statement n) (inr (inr (inr (inr (inr (inr (inr (inr v)))))))) = refl
bare_action grammar.Assignment v = bare_stmt-of _ _ (assigned-bare v.0 v.1.1.0)
bare_action grammar.Store v = bare_stmt-of _ _ (bare-Store v.1.0 v.1.1.1.1.0.1)
bare_action grammar.StoreByte v = bare_stmt-of _ _ (bare-StoreByte v.1.1.0 v.1.1.1.1.1.0.1)
bare_action (grammar.If n) v = bare_stmt-of _ _ (bare-If v.1.0 v.1.1.0.0 v.1.1.1.0 v.1.1.1.1)
bare_action (grammar.Else n) (inl v) = refl
bare_action (grammar.Else n) (inr v) = refl
bare_action grammar.Join (inl v) = refl
bare_action grammar.Join (inr v) = refl
bare_action (grammar.While n) v = bare_stmt-of _ _ (bare-While v.1.0 v.1.1.0.at v.1.1.1.0 v.1.1.1.1.0)
bare_action grammar.Return v = bare_stmt-of _ _ (bare-Return v.1.0.1)
bare_action grammar.HintStatement v = bare_stmt-of _ _ (bare-Hint v.1.0)
bare_action (grammar.Find n) v = let o = v.1.1.1.1.1.1.0 in bare_stmt-of _ _ (bare-Find v.1.0 v.1.1.1.0 v.1.1.1.1.1.0.1 o.list o.seq o.seen o.rest o.keep v.1.1.1.1.1.1.1.0)
bare_action (grammar.Walk n) v = let o = v.1.1.1.1.0 in bare_stmt-of _ _ (bare-Walk v.1.0 v.1.1.1.0 o.list o.seq o.seen o.rest o.keep v.1.1.1.1.1.0)
bare_action grammar.Over v = refl
bare_action grammar.Source (inl v) = refl
bare_action grammar.Source (inr (inl v)) = refl
bare_action grammar.Source (inr (inr (inl v))) = refl
bare_action grammar.Source (inr (inr (inr (inl v)))) = refl
bare_action grammar.Source (inr (inr (inr (inr v)))) = refl
bare_action grammar.Op (inl v) = refl
bare_action grammar.Op (inr (inl v)) = refl
bare_action grammar.Op (inr (inr (inl v))) = refl
bare_action grammar.Op (inr (inr (inr (inl v)))) = refl
bare_action grammar.Op (inr (inr (inr (inr (inl v))))) = refl
bare_action grammar.Op (inr (inr (inr (inr (inr v))))) = refl
bare_action grammar.Call v = refl
bare_action grammar.Callee (inl v) = refl
bare_action grammar.Callee (inr v) = refl
bare_action grammar.Using (inl v) = refl
bare_action grammar.Using (inr v) = refl
bare_action grammar.Hints (inl v) = refl
bare_action grammar.Hints (inr v) = refl
bare_action grammar.Hint (inl v) = refl
bare_action grammar.Hint (inr (inl v)) = refl
bare_action grammar.Hint (inr (inr (inl v))) = refl
bare_action grammar.Hint (inr (inr (inr v))) = refl
bare_action grammar.PredicateHint (inl v) = refl
bare_action grammar.PredicateHint (inr v) = refl
bare_action grammar.At (inl v) = refl
bare_action grammar.At (inr v) = refl
bare_action grammar.BlockHint (inl v) = refl
bare_action grammar.BlockHint (inr (inl v)) = refl
bare_action grammar.BlockHint (inr (inr v)) = refl
bare_action grammar.CellHint (inl v) = refl
bare_action grammar.CellHint (inr (inl v)) = refl
bare_action grammar.CellHint (inr (inr (inl v))) = refl
bare_action grammar.CellHint (inr (inr (inr (inl v)))) = refl
bare_action grammar.CellHint (inr (inr (inr (inr v)))) = refl
bare_action grammar.FactHint (inl v) = refl
bare_action grammar.FactHint (inr (inl v)) = refl
bare_action grammar.FactHint (inr (inr v)) = refl
bare_action (grammar.Nam m) v = name_of-bare v.kind
bare_action (grammar.Num m) (inl v) = ap (λ z. (0, z)) (sym (number_of-bare v.kind))
bare_action (grammar.Num m) (inr v) = ap (λ z. (0, z)) (sym (number_of-bare v.kind))
bare_action (grammar.NameTerm m) v = refl
bare_action (grammar.StartTerm m) v = refl
bare_action (grammar.Start m n) v = refl
bare_action (grammar.Other m n) v = refl
bare_action (grammar.Inner n) (inl v) = bare_word-Times v.0.1 v.1.1
bare_action (grammar.Inner n) (inr v) = refl
bare_action (grammar.Tail n) (inl v) = refl
bare_action (grammar.Tail n) (inr v) = refl
bare_action grammar.Arrow (inl v) = refl
bare_action grammar.Arrow (inr v) = refl

-- ---- another text with the same tokens, places aside

-- marked tokens with every place set to 0
abbrev pub bare_text : Marked Token Which → Marked Token Which
bare_text [] = []
bare_text (x ∷ xs) = (bare_token x.0, x.1) ∷ bare_text xs

abbrev Split : (p q r : Marked Token Which) → Type 0
Split p q r = (r1 : Marked Token Which) × (r2 : Marked Token Which) × (r ≡ r1 ++ r2) × (bare_text r1 ≡ bare_text p) × (bare_text r2 ≡ bare_text q)

split_more : (x y : Token × Option Which) (p q r : Marked Token Which) → ◌≡◌ {A = Token × Option Which} (bare_token y.0, y.1) (bare_token x.0, x.1)
    → Split p q r → Split (x ∷ p) q (y ∷ r)
split_more x y p q r e (r1, r2, f, g, h) =
    (y ∷ r1, r2, ap (λ z. y ∷ z) f, ap (λ z. (bare_token y.0, y.1) ∷ z) g ∙ ap (λ z. z ∷ bare_text p) e, h)

text_split : (p q r : Marked Token Which) → bare_text r ≡ bare_text (p ++ q) → Split p q r
text_split [] q r e = ([], r, refl, refl, e)
text_split (x ∷ p) q [] e = absurd (cc)
text_split (x ∷ p) q (y ∷ r) e =
    let head : ◌≡◌ {A = Token × Option Which} (bare_token y.0, y.1) (bare_token x.0, x.1) = cc in
    let rest : bare_text r ≡ bare_text (p ++ q) = cc in
    split_more x y p q r head (text_split p q r rest)

-- the same right side, for other tokens: a value that is the same, places aside
abbrev Replaced : (g : Rhs N Which) → Marked Token Which → Value Token Tree g → Type 0
Replaced g q v = (w : Value Token Tree g) × Derives written g q w × (bare_value g w ≡ bare_value g v)

one_token : (c : ℕ) (m : Option Which) (t : Token) (q : Marked Token Which) → class t ≡ c → bare_text q ≡ (bare_token t, m) ∷ [] → Replaced (token c m) q t
one_token c m t [] e f = absurd (cc)
one_token c m t (y ∷ z ∷ q) e f = absurd (cc)
one_token c m t (y ∷ []) e f =
    let pair : ◌≡◌ {A = Token × Option Which} (bare_token y.0, y.1) (bare_token t, m) = cc in
    let same : bare_token y.0 ≡ bare_token t = ap (λ z. z.0) pair in
    let mark : y.1 ≡ m = ap (λ z. z.1) pair in
    (y.0, subst (λ z. Derives written (token c z) ((y.0, y.1) ∷ []) y.0) mark (shift c y.1 y.0 (sym (class-bare y.0.kind) ∙ ap class same ∙ class-bare t.kind ∙ e)), same)

no_token : (q : Marked Token Which) → bare_text q ≡ [] → q ≡ []
no_token [] e = refl
no_token (y ∷ q) e = absurd (cc)

pub replaced : (g : Rhs N Which) (p : Marked Token Which) (v : Value Token Tree g) → Derives written g p v
    → (q : Marked Token Which) → bare_text q ≡ bare_text p → Replaced g q v
replaced _ _ _ (shift c m t e) q f = one_token c m t q e f
replaced _ _ _ epsilon q f = (tt, subst (λ z. Derives written empty z tt) (sym (no_token q f)) epsilon, refl)
replaced _ _ _ (sequence a b p1 p2 x y d e) q f =
    let (q1, q2, g, h, k) = text_split p1 p2 q f in
    let (x', d', i) = replaced a p1 x d q1 h in
    let (y', e', j) = replaced b p2 y e q2 k in (
      (x', y'),
      subst (λ z. Derives written (seq a b) z (x', y')) (sym g) (sequence a b q1 q2 x' y' d' e'),
      ap (λ z. (z, bare_value b y')) i ∙ ap (λ z. (bare_value a x, z)) j,
    )
replaced _ _ _ (left a b p x d) q f = let (x', d', i) = replaced a p x d q f in (inl x', left a b q x' d', ap (λ z. inl z) i)
replaced _ _ _ (right a b p x d) q f = let (x', d', i) = replaced b p x d q f in (inr x', right a b q x' d', ap (λ z. inr z) i)
replaced _ _ _ (expand n p v d) q f =
    let (w, d', i) = replaced (written_rule n) p v d q f in
    (written_action n w, expand n q w d', bare_action n w ∙ ap (written_action n) i ∙ sym (bare_action n v))
