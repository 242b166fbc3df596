-- Every module that a text has is printed as a text that has it, production by production.
use Rattle.std.proofs.Common.{◌≡◌, ℕ, suc, ◌+◌, ◌-◌, ◌*◌, ◌<◌, ◌≤◌, ◌^◌, Bool, true, false, nat_eq, nat_le, cond, if◌then◌else◌, List, [], ◌∷◌, ◌++◌, length, Option, Some, None, inl, inr, refl, sym, ap, ◌∙◌, subst, arith, append_assoc, append-nil}
use Rattle.std.specs.Str.{bytes_eq}
use Rattle.std.proofs.lemmas.Slice.Eq.{bytes_eq-Decides}
use Rattle.std.proofs.lemmas.Bool.Decides.{nat_tests}
use Rattle.std.specs.Option.{option_or}
use Rattle.bed_grammar.specs.Grammar.{token, empty, ref, Value, Derives, unmarked}
use Rattle.bed_grammar.proofs.Derivations as derivations
use Rattle.bed_grammar.proofs.Sets.{tokens_of-unmarked, unmarked-is}
use Rattle.bed_lang.specs.declared.word.Name.{Name}
use Rattle.bed_lang.specs.declared.word.Word as word
use Rattle.bed_lang.specs.declared.word.Word.{out-Word}
use Rattle.bed_lang.specs.declared.word.Word.TheOpen.{Word-F}
use Rattle.bed_lang.specs.declared.word.Var.TheVariants as var
use Rattle.bed_lang.specs.declared.word.Seq as sequences
use Rattle.bed_lang.specs.declared.logic.Arg.TheVariants as arg
use Rattle.bed_lang.specs.declared.logic.Bind as binds
use Rattle.bed_lang.specs.declared.module.Rel as rels
use Rattle.bed_lang.specs.declared.module.Rel.TheVariants as rel
use Rattle.bed_lang.specs.declared.statement.Stmt as statements
use Rattle.bed_lang.specs.declared.limit.Which.{Which}
use Rattle.bed_lang.specs.declared.limit.Which.TheVariants as limit
use Rattle.bed_lex.specs.declared.token.Token.{Token}
use Rattle.bed_lex.specs.declared.token.Kind.{Kind}
use Rattle.bed_lex.specs.declared.token.Kind.TheVariants as kind
use Rattle.bed_lex.specs.Tokens.{fixed_word}
use Rattle.bed_lex.specs.Words.{reserved_words, marks, fixed_words}
use Rattle.bed_read.specs.declared.parts.Piece.{Piece}
use Rattle.bed_read.specs.declared.parts.Piece.TheVariants as piece
use Rattle.bed_read.specs.declared.parts.Source as sources
use Rattle.bed_read.specs.declared.parts.Source.TheVariants as source
use Rattle.bed_read.specs.Classes.{kind_class, is_name, IsKindOfText, RESERVING, FOR, PREDICATE, EXISTS, DOT, EQUAL, SEMICOLON, COMMA, BAR, PLUS, ASSIGN, ARROW, BYTE_ARROW, ELSE, LEFT_PAREN, RIGHT_PAREN, LEFT_BRACKET, RIGHT_BRACKET, BYTE, HOLE, CALL, SIGNATURE}
use Rattle.bed_read.specs.Trees.{number_of, name_of, moved, word_of, place_of, added, joined, summed, word_argument, compared, membership, points_to, cell_at, assigned}
use Rattle.bed_read.specs.Written as grammar
use Rattle.bed_read.specs.Written.{N, Tree, written, written_rule, written_action, past}
use Rattle.bed_print.specs.Kinds.{fixed, each_after, parted, name_kinds, export_kinds, word_kinds, seq_kinds, is_name_layer, is_name_alone, arg_kinds, pure_kinds, binds_kinds, exists_kinds, for_kinds, assertion_kinds, predicate_kinds, rel_kind, operand_kinds, via_kinds, place_kinds, stmt_kinds, body_kinds, else_kinds}
use Rattle.bed_print.proofs.Places.{bare_name, bare_word}
use Rattle.bed_print.proofs.Nonterminals.{placed, membership_kind, source_kinds, bare, bare_value, spell, spell_value}
use Rattle.bed_print.proofs.Clean.{AreLexemes, Clean, Says, clean, Prints, prints_seq, prints_empty, prints_left, prints_right, prints_rule, prints_token, plain, prints_value}
use Rattle.bed_print.proofs.WordTrees.{seq_kinds-Var, seq_kinds-Nil, seq_kinds-Cons, seq_kinds-App, alone-Old, alone-Answer, alone-Number, alone-Label, alone-Times, alone-added}
use Rattle.bed_print.proofs.StmtTrees.{stmt_kinds-of, kinds-Assign, kinds-Compute, kinds-Load, kinds-LoadByte, kinds-Store, kinds-StoreByte, kinds-Call, kinds-If, kinds-While, kinds-Return, kinds-Hint, kinds-Find, kinds-Walk}
use Rattle.bed_print.proofs.Replacing.{bare_action}
use Rattle.bed_print.proofs.Pieces.{prints_fixed, prints_name, prints_number, no_more_parts}
use Rattle.bed_print.proofs.Sums as sums
use Rattle.bed_print.proofs.Sums.{Fits, fits_more, layer_piece, piece_of, piece_at_zero, piece_is}
use Rattle.bed_print.proofs.WordTexts.{sum_text, word_text, bracket_part}

-- ---- what is known of the tree of each nonterminal that a text has within the limits: for most that it is printed

-- a name is a name of the language; a word that is a name alone has brackets around it
abbrev Lone : ℕ → Piece → Type 0
Lone n (piece.Name x) = is_name x.bytes ≡ true
Lone n (piece.Word at w) = is_name_alone w ≡ true → 0 < n

-- each part of a sum can be written inside so many more brackets
abbrev EachFits : ℕ → List (Bool × word.Word) → Type 0
EachFits n [] = Unit {0}
EachFits n (b ∷ bs) = Fits b.1 n 0 × EachFits n bs

abbrev IsSome : {A : Type 0} → List A → Type 0
IsSome [] = ⊥
IsSome (x ∷ xs) = Unit {0}

abbrev Printed : (n : N) → Tree n → Type 0
Printed (grammar.Word n) v = Fits v n 255
Printed (grammar.Sum m n) v = (m ≡ None) × (Fits (word_of v) n 255 × Lone n v)
Printed (grammar.Sums k n) v = (length v ≤ k) × EachFits n v
Printed (grammar.Part m n) v = (m ≡ None) × (Fits (word_of v) n 0 × Lone n v)
Printed (grammar.Nam m) v = (m ≡ None) × (is_name v.bytes ≡ true)
Printed (grammar.Num m) v = (m ≡ None) × (v.1 < 2 ^ 32)
Printed grammar.Binds v = Prints (ref grammar.Binds) (spell grammar.Binds v) (bare grammar.Binds v) × IsSome v
Printed (grammar.NameTerm m) v = Unit {0}
Printed (grammar.StartTerm m) v = Unit {0}
Printed (grammar.Start m n) v = Unit {0}
Printed (grammar.Other m n) v = Unit {0}
Printed (grammar.Inner n) v = Unit {0}
Printed (grammar.Tail n) v = Unit {0}
Printed grammar.Arrow v = Unit {0}
Printed n v = Prints (ref n) (spell n v) (bare n v)

-- those that are printed as they are spelled
abbrev is_plain : N → Bool
is_plain (grammar.Sum m n) = false
is_plain (grammar.Sums k n) = false
is_plain (grammar.Part m n) = false
is_plain (grammar.NameTerm m) = false
is_plain (grammar.StartTerm m) = false
is_plain (grammar.Start m n) = false
is_plain (grammar.Other m n) = false
is_plain (grammar.Inner n) = false
is_plain (grammar.Tail n) = false
is_plain grammar.Arrow = false
is_plain n = true

pub no : {A : Type 0} → ◌≡◌ {A = Bool} false true → A
no e = absurd (cc)

prints : (n : N) → is_plain n ≡ true → (v : Tree n) → Printed n v → Prints (ref n) (spell n v) (bare n v)
prints (grammar.Word n) is v p = word_text v n p
prints (grammar.Nam m) is v p = prints_name m v p.0 p.1
prints (grammar.Num m) is v p = prints_number m v.1 p.0 p.1
prints grammar.Binds is v p = p.0
prints (grammar.Sum m n) is v p = no is
prints (grammar.Sums k n) is v p = no is
prints (grammar.Part m n) is v p = no is
prints (grammar.NameTerm m) is v p = no is
prints (grammar.StartTerm m) is v p = no is
prints (grammar.Start m n) is v p = no is
prints (grammar.Other m n) is v p = no is
prints (grammar.Inner n) is v p = no is
prints (grammar.Tail n) is v p = no is
prints grammar.Arrow is v p = no is
prints n is v p = p

-- a production that is printed as it is written
regular : (n : N) (v : Value Token Tree (written_rule n)) → Clean Printed (written_rule n) v → plain Printed is_plain prints (written_rule n) v ≡ true
    → spell n (written_action n v) ≡ spell_value (written_rule n) v
    → Prints (ref n) (spell n (written_action n v)) (bare n (written_action n v))
regular n v c is e =
    subst (λ z. Prints (ref n) z (bare n (written_action n v))) (sym e)
    (subst (λ z. Prints (ref n) (spell_value (written_rule n) v) z) (sym (bare_action n v))
    (prints_rule n (spell_value (written_rule n) v) (bare_value (written_rule n) v) (prints_value Printed is_plain prints (written_rule n) v is c)))

-- ---- tokens

neither : {b : Bool} → b ≡ false → b ≡ true → ⊥
neither f t = no (sym f ∙ t)

never_past : (w : Which) → ◌≡◌ {A = Option Which} (Some w) None → ⊥
never_past w e = cc

abbrev number_class : Bool → ℕ
number_class b = cond b 1 2

small_by : (n : ℕ) (b : Bool) → nat_le n 4096 ≡ b → number_class b ≡ 1 → n ≤ 4096
small_by n true e f = grind (arith, nat_tests)
small_by n false e f = let two : ◌≡◌ {A = ℕ} 2 1 = f in absurd (omega (arith, two))

small_number : (k : Kind) → kind_class k ≡ 1 → IsKindOfText k → number_of k ≤ 4096
small_number (kind.Name x) e is = omega arith
small_number (kind.Number n) e is = small_by n (nat_le n 4096) refl e
small_number (kind.Word w) e is = omega arith
small_number (kind.Fresh n) e is = absurd is

number_fits : (k : Kind) → IsKindOfText k → number_of k < 2 ^ 32
number_fits (kind.Name x) is = omega arith
number_fits (kind.Number n) is = is
number_fits (kind.Word w) is = omega arith
number_fits (kind.Fresh n) is = omega arith

no_name_class : (n : ℕ) (b : Bool) → number_class b ≡ 0 → ⊥
no_name_class n true e = let one : ◌≡◌ {A = ℕ} 1 0 = e in omega (arith, one)
no_name_class n false e = let two : ◌≡◌ {A = ℕ} 2 0 = e in omega (arith, two)

pub name_is : (k : Kind) → kind_class k ≡ 0 → IsKindOfText k → is_name (name_of k).bytes ≡ true
name_is (kind.Name x) e is = is
name_is (kind.Number n) e is = absurd (no_name_class n (nat_le n 4096) e)
name_is (kind.Word w) e is = absurd (omega (arith, e))
name_is (kind.Fresh n) e is = absurd is

-- ---- productions that are not printed as they are written

-- `reserving` is always shown
reserved : (n : ℕ) → n ≤ 4096 → Printed grammar.Reserving n
reserved n small =
    prints_rule grammar.Reserving (fixed RESERVING ∷ kind.Number n ∷ []) (inl (placed (fixed RESERVING), inl (placed (kind.Number n))))
    (prints_left _ empty _ _ (prints_seq (token RESERVING None) _ (fixed RESERVING ∷ []) (kind.Number n ∷ []) _ _ (prints_fixed RESERVING None refl refl)
    (prints_left (token 1 None) (token 2 (Some limit.Reserve)) _ _ (prints_token 1 None (kind.Number n) refl (class_one n small) (fits n small)))))
  where
    fits : (n : ℕ) → n ≤ 4096 → n < 2 ^ 32
    fits n h = omega (arith, h)

    small_test : (n : ℕ) → n ≤ 4096 → nat_le n 4096 ≡ true
    small_test n h = grind (arith, nat_tests)

    class_one : (n : ℕ) → n ≤ 4096 → kind_class (kind.Number n) ≡ 1
    class_one n h = ap (λ b. cond b 1 2) (small_test n h)

for_open : (bs : List binds.Bind) → IsSome bs → for_kinds bs ≡ fixed FOR ∷ binds_kinds bs
for_open [] some = absurd some
for_open (b ∷ bs) some = refl

exists_open : (bs : List binds.Bind) (rest : List Kind) → IsSome bs → exists_kinds bs ++ rest ≡ fixed EXISTS ∷ (binds_kinds bs ++ fixed DOT ∷ rest)
exists_open [] rest some = absurd some
exists_open (b ∷ bs) rest some = ap (λ z. fixed EXISTS ∷ z) (append_assoc (binds_kinds (b ∷ bs)) (fixed DOT ∷ []) rest)

predicate_flat : (v : Value Token Tree (written_rule grammar.Predicate))
    → predicate_kinds (written_action grammar.Predicate v) ≡ spell_value (written_rule grammar.Predicate) v
predicate_flat v =
    ap (λ z. fixed PREDICATE ∷ kind.Name v.1.0 ∷ fixed LEFT_PAREN ∷ (binds_kinds v.1.1.1.0 ++ fixed RIGHT_PAREN ∷ fixed EQUAL ∷ z))
    (append_assoc (assertion_kinds v.1.1.1.1.1.1.0) (each_after BAR assertion_kinds v.1.1.1.1.1.1.1.0) (fixed SEMICOLON ∷ []))

signature_flat : (name : Name) (params rest : List Kind)
    → (fixed SIGNATURE ∷ kind.Name name ∷ fixed LEFT_PAREN ∷ (params ++ fixed RIGHT_PAREN ∷ [])) ++ rest
    ≡ fixed SIGNATURE ∷ kind.Name name ∷ fixed LEFT_PAREN ∷ (params ++ fixed RIGHT_PAREN ∷ rest)
signature_flat name params rest =
    ap (λ z. fixed SIGNATURE ∷ kind.Name name ∷ fixed LEFT_PAREN ∷ z) (append_assoc params (fixed RIGHT_PAREN ∷ []) rest)

call_flat : (target args rest : List Kind)
    → fixed CALL ∷ ((target ++ fixed LEFT_PAREN ∷ (args ++ fixed RIGHT_PAREN ∷ [])) ++ rest) ≡ fixed CALL ∷ (target ++ fixed LEFT_PAREN ∷ (args ++ fixed RIGHT_PAREN ∷ rest))
call_flat target args rest =
    ap (λ z. fixed CALL ∷ z) (append_assoc target (fixed LEFT_PAREN ∷ (args ++ fixed RIGHT_PAREN ∷ [])) rest
    ∙ ap (λ z. target ++ fixed LEFT_PAREN ∷ z) (append_assoc args (fixed RIGHT_PAREN ∷ []) rest))

compared_spelled : (a : word.Word) (r : rels.Rel) (b : word.Word) → pure_kinds (compared a r b) ≡ word_kinds a ++ rel_kind r ∷ word_kinds b
compared_spelled a rel.Equal b = refl
compared_spelled a rel.Unequal b = refl
compared_spelled a rel.Less b = refl
compared_spelled a rel.AtMost b = refl

membership_spelled : (a : word.Word) (i : Bool) (s : sequences.Seq) → pure_kinds (membership a i s) ≡ word_kinds a ++ membership_kind i ∷ seq_kinds s
membership_spelled a true s = refl
membership_spelled a false s = refl

-- the hole is no name
hole_no_name : is_name (95 ∷ []) ≡ false
unfolding fixed_word fixed_words reserved_words marks
hole_no_name = refl

not_hole_bytes : (bytes : List ℕ) → is_name bytes ≡ true → bytes_eq bytes (95 ∷ []) ≡ false
not_hole_bytes bytes is = by (bytes_eq bytes (95 ∷ [])) refl
  where
    by : (b : Bool) → bytes_eq bytes (95 ∷ []) ≡ b → b ≡ false
    by false e = refl
    by true e =
        let same : bytes ≡ 95 ∷ [] = (bytes_eq-Decides bytes (95 ∷ [])).0 e in
        absurd (neither (ap is_name same ∙ hole_no_name) is)

not_hole : (x : Name) → (◌≡◌ {A = Option Which} None None) × (is_name x.bytes ≡ true) → arg_kinds (arg.Bare x) ≡ kind.Name x ∷ []
not_hole x p = ap (λ b. if b then fixed HOLE ∷ [] else kind.Name x ∷ []) (not_hole_bytes x.bytes p.1)

assigned_spelled : (at : ℕ) (x : Name) (s : sources.Source)
    → stmt_kinds (record { at = at; kind = assigned x s }) ≡ kind.Name x ∷ fixed ASSIGN ∷ (source_kinds s ++ fixed SEMICOLON ∷ [])
assigned_spelled at x (source.Operand a) = stmt_kinds-of _ _ (kinds-Assign x a)
assigned_spelled at x (source.Compute o a b) = stmt_kinds-of _ _ (kinds-Compute x o a b)
assigned_spelled at x (source.Load p) = stmt_kinds-of _ _ (kinds-Load x p ∙ load_flat (place_kinds p))
  where
    load_flat : (ks : List Kind) → kind.Name x ∷ fixed ASSIGN ∷ fixed LEFT_BRACKET ∷ (ks ++ fixed RIGHT_BRACKET ∷ fixed SEMICOLON ∷ [])
        ≡ kind.Name x ∷ fixed ASSIGN ∷ fixed LEFT_BRACKET ∷ ((ks ++ fixed RIGHT_BRACKET ∷ []) ++ fixed SEMICOLON ∷ [])
    load_flat ks = sym (ap (λ z. kind.Name x ∷ fixed ASSIGN ∷ fixed LEFT_BRACKET ∷ z) (append_assoc ks (fixed RIGHT_BRACKET ∷ []) (fixed SEMICOLON ∷ [])))
assigned_spelled at x (source.LoadByte p) = stmt_kinds-of _ _ (kinds-LoadByte x p ∙ load_flat (place_kinds p))
  where
    load_flat : (ks : List Kind) → kind.Name x ∷ fixed ASSIGN ∷ fixed BYTE ∷ fixed LEFT_BRACKET ∷ (ks ++ fixed RIGHT_BRACKET ∷ fixed SEMICOLON ∷ [])
        ≡ kind.Name x ∷ fixed ASSIGN ∷ fixed BYTE ∷ fixed LEFT_BRACKET ∷ ((ks ++ fixed RIGHT_BRACKET ∷ []) ++ fixed SEMICOLON ∷ [])
    load_flat ks = sym (ap (λ z. kind.Name x ∷ fixed ASSIGN ∷ fixed BYTE ∷ fixed LEFT_BRACKET ∷ z) (append_assoc ks (fixed RIGHT_BRACKET ∷ []) (fixed SEMICOLON ∷ [])))
assigned_spelled at x (source.Call c) = stmt_kinds-of _ _ (kinds-Call c.place x c.target c.via c.args c.hints c.after)

-- ---- sums

sums_fit : (k n : ℕ) (s : Bool) (p : Piece) (bs : List (Bool × word.Word)) → Printed (grammar.Part (past limit.Terms k) n) p → Printed (grammar.Sums (k - 1) n) bs
    → Printed (grammar.Sums k n) ((s, word_of p) ∷ bs)
sums_fit k n s p bs part rest = (within k (length bs) (left_some k (nat_eq k 0) refl part.0) rest.0, (part.1.0, rest.1))
  where
    left_some : (k : ℕ) (b : Bool) → nat_eq k 0 ≡ b → past limit.Terms k ≡ None → 0 < k
    left_some k true e f = absurd (never_past limit.Terms (sym (ap (λ b. if b then Some limit.Terms else None) e) ∙ f))
    left_some k false e f = grind (arith, nat_tests)

    within : (k j : ℕ) → 0 < k → j ≤ k - 1 → suc j ≤ k
    within k j some h = omega (arith, some, h)

-- further parts on top of a piece that fits
summed_fits : (n k : ℕ) (bs : List (Bool × word.Word)) (p : Piece) → k ≤ 255 → length bs ≤ k → Fits (word_of p) n (k - length bs) → EachFits n bs
    → Fits (word_of (summed p bs)) n k
summed_fits n k [] p small some fits each = subst (λ z. Fits (word_of p) n z) (no_fewer k) fits
  where
    no_fewer : (k : ℕ) → k - 0 ≡ k
    no_fewer k = omega arith
summed_fits n k (b ∷ bs) p small some fits each =
    summed_fits n k bs (joined p b) small (omega (arith, some)) joined_fits each.1
  where
    one_more : (k j : ℕ) → suc j ≤ k → k - j ≡ suc (k - suc j)
    one_more k j h = omega (arith, h)

    joined_fits : Fits (added (word_of p) (b.0, b.1)) n (k - length bs)
    joined_fits =
        subst (λ z. Fits (added (word_of p) (b.0, b.1)) n z) (sym (one_more k (length bs) some))
        (sums.open_sum (word_of p) b.1 b.0 n (k - suc (length bs)) fits each.0)

joined_lone : (n : ℕ) (p : Piece) (b : Bool × word.Word) → Lone n (joined p b)
joined_lone n p b e = absurd (neither (alone-added (word_of p) b.1 b.0) e)

summed_lone : (n : ℕ) (p : Piece) (bs : List (Bool × word.Word)) → Lone n p → Lone n (summed p bs)
summed_lone n p [] h = h
summed_lone n p (b ∷ bs) h = summed_lone n (joined p b) bs (joined_lone n p b)

sum_fits : (m : Option Which) (n : ℕ) (p : Piece) (bs : List (Bool × word.Word)) → Printed (grammar.Part m n) p → Printed (grammar.Sums 255 n) bs
    → Printed (grammar.Sum m n) (summed p bs)
sum_fits m n p bs part rest = (
  part.0,
  (
    summed_fits n 255 bs p (omega arith) rest.0 (fits_more (word_of p) n 0 part.1.0 n (255 - length bs) (omega arith) (omega arith) (omega arith)) rest.1,
    summed_lone n p bs part.1.1,
  ),
)

-- a bracket within the limits
may_open : (m : Option Which) (n : ℕ) → option_or m (past limit.Nesting n) ≡ None → (m ≡ None) × (n ≡ n - 1 + 1)
may_open (Some w) n e = absurd (never_past w e)
may_open None n e = (refl, by (nat_eq n 0) refl)
  where
    by : (b : Bool) → nat_eq n 0 ≡ b → n ≡ n - 1 + 1
    by true f = absurd (never_past limit.Nesting (sym (ap (λ b. if b then Some limit.Nesting else None) f) ∙ e))
    by false f = grind (arith, nat_tests)

times_fits : (m : Option Which) (n v : ℕ) (w : word.Word) (at : ℕ) → option_or m (past limit.Nesting n) ≡ None → v < 2 ^ 32 → Fits w (n - 1) 255
    → Printed (grammar.Part m n) (piece.Word at (word.Times v w))
times_fits m n v w at e small fits =
    let o = may_open m n e in
    (o.0, (subst (λ z. Fits (word.Times v w) z 0) (up (n - 1) n o.1) (sums.times v w (n - 1) 0 small fits), λ f. absurd (neither (alone-Times v w) f)))
  where
    up : (j n : ℕ) → n ≡ j + 1 → suc j ≡ n
    up j n e = omega (arith, e)

bracket_fits : (m : Option Which) (n : ℕ) (w : word.Word) (at : ℕ) → option_or m (past limit.Nesting n) ≡ None → Fits w (n - 1) 255
    → Printed (grammar.Part m n) (piece.Word at w)
bracket_fits m n w at e fits =
    let o = may_open m n e in
    (o.0, (fits_more w (n - 1) 255 fits n 0 (omega arith) (omega arith) (room n o.1), λ f. some n o.1))
  where
    room : (n : ℕ) → n ≡ n - 1 + 1 → (n - 1) * 256 + 255 ≤ n * 256 + 0
    room n e = omega (arith, e)

    some : (n : ℕ) → n ≡ n - 1 + 1 → 0 < n
    some n e = omega (arith, e)

-- ---- cells and arguments

cell_value : (w v : word.Word) (i : Bool) (p : Piece) → place_of p ≡ 0 → word_of p ≡ bare_word w → (0, points_to (bare_word w) i (bare_word v)) ≡ cell_at p (i, bare_word v)
cell_value w v i p e f = sym (ap (λ z. (z, points_to (word_of p) i (bare_word v))) e ∙ ap (λ z. (0, points_to z i (bare_word v))) f)

cell_printed : (m : Option Which) (p : Piece) (v : word.Word) → Printed (grammar.Sum m 64) p → Fits v 64 255 → Printed (grammar.Term m) (cell_at p (true, v))
cell_printed m p v c f =
    let w : word.Word = word_of p in
    let ks : List Kind = word_kinds w ++ fixed ARROW ∷ word_kinds v in
    subst (λ z. Prints (ref (grammar.Term m)) ks z) (sym (cell_value w v true (piece_of w) (piece_at_zero w) (piece_is w 64 255 c.1.0)))
    (prints_rule (grammar.Term m) ks (inr (inr (inr (inr (inl (piece_of w, (placed (fixed ARROW), bare_word v)))))))
    (prints_right _ _ _ _ (prints_right _ _ _ _ (prints_right _ _ _ _ (prints_right _ _ _ _ (prints_left _ _ _ _
    (prints_seq _ _ (word_kinds w) (fixed ARROW ∷ word_kinds v) _ _ (sum_text w 64 m c.0 c.1.0)
    (prints_seq _ _ (fixed ARROW ∷ []) (word_kinds v) _ _ (prints_fixed ARROW None refl refl) (word_text v 64 f)))))))))

byte_printed : (m : Option Which) (p : Piece) (v : word.Word) → Printed (grammar.Sum m 64) p → Fits v 64 255 → Printed (grammar.Term m) (cell_at p (false, v))
byte_printed m p v c f =
    let w : word.Word = word_of p in
    let ks : List Kind = word_kinds w ++ fixed BYTE_ARROW ∷ word_kinds v in
    subst (λ z. Prints (ref (grammar.Term m)) ks z) (sym (cell_value w v false (piece_of w) (piece_at_zero w) (piece_is w 64 255 c.1.0)))
    (prints_rule (grammar.Term m) ks (inr (inr (inr (inr (inr (piece_of w, (placed (fixed BYTE_ARROW), bare_word v)))))))
    (prints_right _ _ _ _ (prints_right _ _ _ _ (prints_right _ _ _ _ (prints_right _ _ _ _ (prints_right _ _ _ _
    (prints_seq _ _ (word_kinds w) (fixed BYTE_ARROW ∷ word_kinds v) _ _ (sum_text w 64 m c.0 c.1.0)
    (prints_seq _ _ (fixed BYTE_ARROW ∷ []) (word_kinds v) _ _ (prints_fixed BYTE_ARROW None refl refl) (word_text v 64 f)))))))))

layer_not_alone : (f : Word-F word.Word) (w : word.Word) → is_name_layer f ≡ false → layer_piece f w ≡ piece.Word 0 (bare_word w)
layer_not_alone (Word-F.Number v) w e = refl
layer_not_alone (Word-F.Var (var.Named x)) w e = no (sym e)
layer_not_alone (Word-F.Var (var.Old x)) w e = refl
layer_not_alone (Word-F.Var (var.Answer at)) w e = refl
layer_not_alone (Word-F.Var (var.Fresh n)) w e = refl
layer_not_alone (Word-F.Var var.Hole) w e = refl
layer_not_alone (Word-F.Label x) w e = refl
layer_not_alone (Word-F.Add a b) w e = refl
layer_not_alone (Word-F.Sub a b) w e = refl
layer_not_alone (Word-F.Times n a) w e = refl

-- a name alone can be written everywhere
alone_fits : (w : word.Word) (n k : ℕ) → Fits w n k → is_name_alone w ≡ true → (j : ℕ) → Fits w j k
alone_fits _ _ _ (sums.number v n k h) e j = sums.number v j k h
alone_fits _ _ _ (sums.named x n k h) e j = sums.named x j k h
alone_fits _ _ _ (sums.old x n k h) e j = sums.old x j k h
alone_fits _ _ _ (sums.answer at n k) e j = sums.answer at j k
alone_fits _ _ _ (sums.label x n k h) e j = sums.label x j k h
alone_fits _ _ _ (sums.open_sum a b s n k p q) e j = absurd (neither (alone-added a b s) e)
alone_fits _ _ _ (sums.closed_sum a b s n p q) e j = absurd (neither (alone-added a b s) e)
alone_fits _ _ _ (sums.times v a n k h p) e j = absurd (neither (alone-Times v a) e)

-- an argument that is a word
word_argument_printed : (n at : ℕ) (w : word.Word) (alone : Bool) → is_name_alone w ≡ alone → Fits w n 255 → (is_name_alone w ≡ true → 0 < n)
    → Prints (ref (grammar.Arg n)) (if alone then fixed LEFT_PAREN ∷ (word_kinds w ++ fixed RIGHT_PAREN ∷ []) else word_kinds w) (arg.Word 0 (bare_word w))
word_argument_printed n at w false e fits lone =
    let text : Prints (ref (grammar.Sum None n)) (word_kinds w) (piece.Word 0 (bare_word w)) =
    subst (λ z. Prints (ref (grammar.Sum None n)) (word_kinds w) z) (layer_not_alone (out-Word w) w e) (sum_text w n None refl fits) in
    prints_rule (grammar.Arg n) (word_kinds w) (inl (piece.Word 0 (bare_word w))) (prints_left _ _ _ _ text)
word_argument_printed n at w true e fits lone =
    let ks : List Kind = fixed LEFT_PAREN ∷ (word_kinds w ++ fixed RIGHT_PAREN ∷ []) in
    let part : Prints (ref (grammar.Part None n)) ks (piece.Word 0 (bare_word w)) =
    bracket_part None refl n (n - 1) (back n (lone e)) (word_kinds w) (bare_word w) (word_text w (n - 1) (alone_fits w n 255 fits e (n - 1))) in
    let sum : Prints (ref (grammar.Sum None n)) (ks ++ []) (piece.Word 0 (bare_word w)) =
    prints_rule (grammar.Sum None n) (ks ++ []) (piece.Word 0 (bare_word w), []) (prints_seq _ _ ks [] _ _ part (no_more_parts 255 n)) in
    prints_rule (grammar.Arg n) ks (inl (piece.Word 0 (bare_word w)))
    (prints_left _ _ _ _ (subst (λ z. Prints (ref (grammar.Sum None n)) z (piece.Word 0 (bare_word w))) (append-nil ks) sum))
  where
    back : (n : ℕ) → 0 < n → n ≡ n - 1 + 1
    back n h = omega (arith, h)

sum_argument : (n : ℕ) (p : Piece) → Printed (grammar.Sum None n) p → Printed (grammar.Arg n) (word_argument p)
sum_argument n (piece.Name x) c =
    subst (λ z. Prints (ref (grammar.Arg n)) z (arg.Bare (bare_name x))) (sym (not_hole x (refl, c.1.1)))
    (prints_rule (grammar.Arg n) (kind.Name x ∷ []) (inr (inl (bare_name x))) (prints_right _ _ _ _ (prints_left _ _ _ _ (prints_name None x refl c.1.1))))
sum_argument n (piece.Word at w) c = word_argument_printed n at w (is_name_alone w) refl c.1.0 c.1.1

-- ---- what is left out

-- a displacement of 0
offset_printed : (v : ℕ) → Printed (grammar.Num None) (0, v) → Printed grammar.Offset v
offset_printed v c = by (nat_eq v 0) refl
  where
    zero_is : (v : ℕ) → nat_eq v 0 ≡ true → 0 ≡ v
    zero_is v e = grind (arith, nat_tests)

    nothing : Prints (ref grammar.Offset) [] 0
    nothing = prints_rule grammar.Offset [] (inr tt) (prints_right _ empty [] tt prints_empty)

    by : (b : Bool) → nat_eq v 0 ≡ b → Prints (ref grammar.Offset) (if b then [] else fixed PLUS ∷ kind.Number v ∷ []) v
    by true e = subst (λ z. Prints (ref grammar.Offset) [] z) (zero_is v e) nothing
    by false e =
        prints_rule grammar.Offset (fixed PLUS ∷ kind.Number v ∷ []) (inl (placed (fixed PLUS), (0, v)))
        (prints_left _ empty _ _ (prints_seq _ _ (fixed PLUS ∷ []) (kind.Number v ∷ []) _ _ (prints_fixed PLUS None refl refl) (prints_number None v refl c.1)))

else_open : (body : List statements.Stmt) → IsSome body → else_kinds body ≡ fixed ELSE ∷ body_kinds body
else_open [] some = absurd some
else_open (s ∷ ss) some = refl

some_is : {A : Type 0} (s : A) (ss xs : List A) → xs ≡ s ∷ ss → IsSome xs
some_is s ss xs e = subst IsSome (sym e) tt

-- an empty `else`
else_printed : (n : ℕ) (v : Token × (List statements.Stmt × ℕ)) → Clean Printed (written_rule (grammar.Else n)) (inl v) → Printed (grammar.Else n) v.1.0
else_printed n v c = by v.1.0 refl
  where
    nothing : Printed (grammar.Else n) []
    nothing = prints_rule (grammar.Else n) [] (inr tt) (prints_right _ empty [] tt prints_empty)

    by : (body : List statements.Stmt) → v.1.0 ≡ body → Printed (grammar.Else n) v.1.0
    by [] e = subst (λ z. Printed (grammar.Else n) z) (sym e) nothing
    by (s ∷ ss) e = regular (grammar.Else n) (inl v) c refl (else_open v.1.0 (some_is s ss v.1.0 e))

-- what the grammar has within the limits is printed
closed : (n : N) (v : Value Token Tree (written_rule n)) → Clean Printed (written_rule n) v → Printed n (written_action n v)
closed grammar.Module v c = regular grammar.Module v c refl refl
closed grammar.Signatures (inl v) c = regular grammar.Signatures (inl v) c refl refl
closed grammar.Signatures (inr v) c = regular grammar.Signatures (inr v) c refl refl
closed grammar.Signature v c = regular grammar.Signature v c refl (signature_flat v.1.0 (parted COMMA name_kinds v.1.1.1.0) _)
closed grammar.NameList (inl v) c = regular grammar.NameList (inl v) c refl refl
closed grammar.NameList (inr v) c = regular grammar.NameList (inr v) c refl refl
closed (grammar.Names w k) (inl v) c = regular (grammar.Names w k) (inl v) c refl refl
closed (grammar.Names w k) (inr v) c = regular (grammar.Names w k) (inr v) c refl refl
closed grammar.Reserving (inl (v, inl t)) c = reserved (number_of t.kind) (small_number t.kind c.1.1 c.1.2)
closed grammar.Reserving (inl (v, inr t)) c = absurd (never_past limit.Reserve c.1.0)
closed grammar.Reserving (inr v) c = reserved 0 (omega arith)
closed grammar.For (inl v) c = regular grammar.For (inl v) c refl (for_open v.1 c.1.1)
closed grammar.For (inr v) c = regular grammar.For (inr v) c refl refl
closed (grammar.Bind m) v c = regular (grammar.Bind m) v c refl refl
closed grammar.Binds v c = (regular grammar.Binds v c refl refl, tt)
closed (grammar.MoreBinds k) (inl v) c = regular (grammar.MoreBinds k) (inl v) c refl refl
closed (grammar.MoreBinds k) (inr v) c = regular (grammar.MoreBinds k) (inr v) c refl refl
closed grammar.BindList (inl v) c = regular grammar.BindList (inl v) c refl refl
closed grammar.BindList (inr v) c = regular grammar.BindList (inr v) c refl refl
closed grammar.Sort (inl v) c = regular grammar.Sort (inl v) c refl refl
closed grammar.Sort (inr v) c = regular grammar.Sort (inr v) c refl refl
closed grammar.Predicates (inl v) c = regular grammar.Predicates (inl v) c refl refl
closed grammar.Predicates (inr v) c = regular grammar.Predicates (inr v) c refl refl
closed grammar.Predicate v c = regular grammar.Predicate v c refl (predicate_flat v)
closed (grammar.Cases k) (inl v) c = regular (grammar.Cases k) (inl v) c refl refl
closed (grammar.Cases k) (inr v) c = regular (grammar.Cases k) (inr v) c refl refl
closed grammar.Imports (inl v) c = regular grammar.Imports (inl v) c refl refl
closed grammar.Imports (inr v) c = regular grammar.Imports (inr v) c refl refl
closed grammar.Import v c = regular grammar.Import v c refl refl
closed grammar.Functions (inl v) c = regular grammar.Functions (inl v) c refl refl
closed grammar.Functions (inr v) c = regular grammar.Functions (inr v) c refl refl
closed grammar.Function v c = regular grammar.Function v c refl (append_assoc (export_kinds v.0) _ _)
closed grammar.Export (inl v) c = regular grammar.Export (inl v) c refl refl
closed grammar.Export (inr v) c = regular grammar.Export (inr v) c refl refl
closed grammar.Locals (inl v) c = regular grammar.Locals (inl v) c refl refl
closed grammar.Locals (inr v) c = regular grammar.Locals (inr v) c refl refl
closed (grammar.Body n) v c = regular (grammar.Body n) v c refl refl
closed (grammar.Statements n) (inl v) c = regular (grammar.Statements n) (inl v) c refl refl
closed (grammar.Statements n) (inr v) c = regular (grammar.Statements n) (inr v) c refl refl
closed (grammar.Assertion m) (inl v) c = regular (grammar.Assertion m) (inl v) c refl (exists_open v.1.0 _ c.1.0.1)
closed (grammar.Assertion m) (inr v) c = regular (grammar.Assertion m) (inr v) c refl refl
closed (grammar.Terms k) (inl v) c = regular (grammar.Terms k) (inl v) c refl refl
closed (grammar.Terms k) (inr v) c = regular (grammar.Terms k) (inr v) c refl refl
closed (grammar.Term m) (inl v) c = regular (grammar.Term m) (inl v) c refl refl
closed (grammar.Term m) (inr (inl v)) c = regular (grammar.Term m) (inr (inl v)) c refl refl
closed (grammar.Term m) (inr (inr (inl v))) c = regular (grammar.Term m) (inr (inr (inl v))) c refl refl
closed (grammar.Term m) (inr (inr (inr (inl v)))) c = regular (grammar.Term m) (inr (inr (inr (inl v)))) c refl refl
closed (grammar.Term m) (inr (inr (inr (inr (inl v))))) c = cell_printed m v.0 v.1.1 c.0 c.1.1
closed (grammar.Term m) (inr (inr (inr (inr (inr v))))) c = byte_printed m v.0 v.1.1 c.0 c.1.1
closed (grammar.PureTerm m) v c = regular (grammar.PureTerm m) v c refl refl
closed (grammar.Block m) v c = regular (grammar.Block m) v c refl refl
closed (grammar.Pure n) (inl v) c = regular (grammar.Pure n) (inl v) c refl (compared_spelled v.0 v.1.0 v.1.1)
closed (grammar.Pure n) (inr (inl v)) c = regular (grammar.Pure n) (inr (inl v)) c refl refl
closed (grammar.Pure n) (inr (inr (inl v))) c = regular (grammar.Pure n) (inr (inr (inl v))) c refl (membership_spelled v.0 v.1.0 v.1.1)
closed (grammar.Pure n) (inr (inr (inr v))) c = regular (grammar.Pure n) (inr (inr (inr v))) c refl refl
closed grammar.Rel (inl v) c = regular grammar.Rel (inl v) c refl refl
closed grammar.Rel (inr (inl v)) c = regular grammar.Rel (inr (inl v)) c refl refl
closed grammar.Rel (inr (inr (inl v))) c = regular grammar.Rel (inr (inr (inl v))) c refl refl
closed grammar.Rel (inr (inr (inr v))) c = regular grammar.Rel (inr (inr (inr v))) c refl refl
closed grammar.Membership (inl v) c = regular grammar.Membership (inl v) c refl refl
closed grammar.Membership (inr v) c = regular grammar.Membership (inr v) c refl refl
closed (grammar.CodeFact n) v c = regular (grammar.CodeFact n) v c refl refl
closed (grammar.Word n) v c = c.1.0
closed (grammar.Sum m n) v c = sum_fits m n v.0 v.1 c.0 c.1
closed (grammar.Sums k n) (inl v) c = sums_fit k n v.0 v.1.0 v.1.1 c.1.0 c.1.1
closed (grammar.Sums k n) (inr v) c = (omega arith, tt)
closed grammar.Sign (inl v) c = regular grammar.Sign (inl v) c refl refl
closed grammar.Sign (inr v) c = regular grammar.Sign (inr v) c refl refl
closed (grammar.Part m n) (inl v) c = (c.0, (sums.number v.1 n 0 c.1, λ e. absurd (neither (alone-Number v.1) e)))
closed (grammar.Part m n) (inr (inl v)) c = (c.0, (sums.named v n 0 c.1, c.1))
closed (grammar.Part m n) (inr (inr (inl v))) c = (c.0.0, (sums.label v.1 n 0 c.1.1, λ e. absurd (neither (alone-Label v.1) e)))
closed (grammar.Part m n) (inr (inr (inr (inl v)))) c = (c.0.0, (sums.old (moved v.0.at v.1) n 0 c.1.1, λ e. absurd (neither (alone-Old (moved v.0.at v.1)) e)))
closed (grammar.Part m n) (inr (inr (inr (inr (inl v))))) c = (c.0, (sums.answer v.at n 0, λ e. absurd (neither (alone-Answer v.at) e)))
closed (grammar.Part m n) (inr (inr (inr (inr (inr (inl v)))))) c = times_fits m n v.1.0.1 v.1.1.1.0 v.0.at c.0.0 c.1.0.1 c.1.1.1.0
closed (grammar.Part m n) (inr (inr (inr (inr (inr (inr v)))))) c = bracket_fits m n v.1.0 v.0.at c.0.0 c.1.0
closed (grammar.Seq n) (inl v) c = regular (grammar.Seq n) (inl v) c refl (seq_kinds-Var (var.Named v))
closed (grammar.Seq n) (inr v) c = regular (grammar.Seq n) (inr v) c refl refl
closed (grammar.PlainSeq n) (inl v) c = regular (grammar.PlainSeq n) (inl v) c refl (seq_kinds-Nil)
closed (grammar.PlainSeq n) (inr (inl v)) c = regular (grammar.PlainSeq n) (inr (inl v)) c refl (seq_kinds-Cons v.1.1.0 v.1.1.1.1.0)
closed (grammar.PlainSeq n) (inr (inr v)) c = regular (grammar.PlainSeq n) (inr (inr v)) c refl (seq_kinds-App v.1.1.0 v.1.1.1.1.0)
closed (grammar.Arg n) (inl v) c = sum_argument n v c
closed (grammar.Arg n) (inr (inl v)) c = regular (grammar.Arg n) (inr (inl v)) c refl (not_hole v c)
closed (grammar.Arg n) (inr (inr v)) c = regular (grammar.Arg n) (inr (inr v)) c refl refl
closed (grammar.Args n) (inl v) c = regular (grammar.Args n) (inl v) c refl refl
closed (grammar.Args n) (inr v) c = regular (grammar.Args n) (inr v) c refl refl
closed (grammar.MoreArgs n) (inl v) c = regular (grammar.MoreArgs n) (inl v) c refl refl
closed (grammar.MoreArgs n) (inr v) c = regular (grammar.MoreArgs n) (inr v) c refl refl
closed (grammar.HoleArg n) (inl v) c = regular (grammar.HoleArg n) (inl v) c refl refl
closed (grammar.HoleArg n) (inr v) c = regular (grammar.HoleArg n) (inr v) c refl refl
closed (grammar.HoleArgs n) (inl v) c = regular (grammar.HoleArgs n) (inl v) c refl refl
closed (grammar.HoleArgs n) (inr v) c = regular (grammar.HoleArgs n) (inr v) c refl refl
closed (grammar.MoreHoleArgs n) (inl v) c = regular (grammar.MoreHoleArgs n) (inl v) c refl refl
closed (grammar.MoreHoleArgs n) (inr v) c = regular (grammar.MoreHoleArgs n) (inr v) c refl refl
closed grammar.Operand (inl v) c = regular grammar.Operand (inl v) c refl refl
closed grammar.Operand (inr (inl v)) c = regular grammar.Operand (inr (inl v)) c refl refl
closed grammar.Operand (inr (inr v)) c = regular grammar.Operand (inr (inr v)) c refl refl
closed grammar.Operands (inl v) c = regular grammar.Operands (inl v) c refl refl
closed grammar.Operands (inr v) c = regular grammar.Operands (inr v) c refl refl
closed grammar.MoreOperands (inl v) c = regular grammar.MoreOperands (inl v) c refl refl
closed grammar.MoreOperands (inr v) c = regular grammar.MoreOperands (inr v) c refl refl
closed grammar.Test v c = regular grammar.Test v c refl refl
closed grammar.Place v c = regular grammar.Place v c refl refl
closed grammar.Offset (inl v) c = offset_printed v.1.1 c.1
closed grammar.Offset (inr v) c = regular grammar.Offset (inr v) c refl refl
closed (grammar.Statement n) (inl v) c = regular (grammar.Statement n) (inl v) c refl refl
closed (grammar.Statement n) (inr (inl v)) c = regular (grammar.Statement n) (inr (inl v)) c refl refl
closed (grammar.Statement n) (inr (inr (inl v))) c = regular (grammar.Statement n) (inr (inr (inl v))) c refl refl
closed (grammar.Statement n) (inr (inr (inr (inl v)))) c = regular (grammar.Statement n) (inr (inr (inr (inl v)))) c refl refl
closed (grammar.Statement n) (inr (inr (inr (inr (inl v))))) c = regular (grammar.Statement n) (inr (inr (inr (inr (inl v))))) c refl refl
closed (grammar.Statement n) (inr (inr (inr (inr (inr (inl v)))))) c = regular (grammar.Statement n) (inr (inr (inr (inr (inr (inl v)))))) c refl refl
closed (grammar.Statement n) (inr (inr (inr (inr (inr (inr (inl v))))))) c = regular (grammar.Statement n) (inr (inr (inr (inr (inr (inr (inl v))))))) c refl refl
closed (grammar.Statement n) (inr (inr (inr (inr (inr (inr (inr (inl v)))))))) c = regular (grammar.Statement n) (inr (inr (inr (inr (inr (inr (inr (inl v)))))))) c refl refl
closed (grammar.Statement n) (inr (inr (inr (inr (inr (inr (inr (inr v)))))))) c = regular (grammar.Statement n) (inr (inr (inr (inr (inr (inr (inr (inr v)))))))) c refl refl
closed grammar.Assignment v c = regular grammar.Assignment v c refl (assigned_spelled v.0.at v.0 v.1.1.0)
closed grammar.Store v c = regular grammar.Store v c refl (stmt_kinds-of _ _ (kinds-Store v.1.0 v.1.1.1.1.0.1))
closed grammar.StoreByte v c = regular grammar.StoreByte v c refl (stmt_kinds-of _ _ (kinds-StoreByte v.1.1.0 v.1.1.1.1.1.0.1))
closed (grammar.If n) v c = regular (grammar.If n) v c refl (stmt_kinds-of _ _ (kinds-If v.1.0 v.1.1.0.0 v.1.1.1.0 v.1.1.1.1))
closed (grammar.Else n) (inl v) c = else_printed n v c
closed (grammar.Else n) (inr v) c = regular (grammar.Else n) (inr v) c refl refl
closed grammar.Join (inl v) c = regular grammar.Join (inl v) c refl refl
closed grammar.Join (inr v) c = regular grammar.Join (inr v) c refl refl
closed (grammar.While n) v c = regular (grammar.While n) v c refl (stmt_kinds-of _ _ (kinds-While v.1.0 v.1.1.0.at v.1.1.1.0 v.1.1.1.1.0))
closed grammar.Return v c = regular grammar.Return v c refl (stmt_kinds-of _ _ (kinds-Return v.1.0.1))
closed grammar.HintStatement v c = regular grammar.HintStatement v c refl (stmt_kinds-of _ _ (kinds-Hint v.1.0))
closed (grammar.Find n) v c = regular (grammar.Find n) v c refl (let o = v.1.1.1.1.1.1.0 in stmt_kinds-of _ _ (kinds-Find v.1.0 v.1.1.1.0 v.1.1.1.1.1.0.1 o.list o.seq o.seen o.rest o.keep v.1.1.1.1.1.1.1.0))
closed (grammar.Walk n) v c = regular (grammar.Walk n) v c refl (let o = v.1.1.1.1.0 in stmt_kinds-of _ _ (kinds-Walk v.1.0 v.1.1.1.0 o.list o.seq o.seen o.rest o.keep v.1.1.1.1.1.0))
closed grammar.Over v c = regular grammar.Over v c refl refl
closed grammar.Source (inl v) c = regular grammar.Source (inl v) c refl refl
closed grammar.Source (inr (inl v)) c = regular grammar.Source (inr (inl v)) c refl refl
closed grammar.Source (inr (inr (inl v))) c = regular grammar.Source (inr (inr (inl v))) c refl refl
closed grammar.Source (inr (inr (inr (inl v)))) c = regular grammar.Source (inr (inr (inr (inl v)))) c refl refl
closed grammar.Source (inr (inr (inr (inr v)))) c = regular grammar.Source (inr (inr (inr (inr v)))) c refl refl
closed grammar.Op (inl v) c = regular grammar.Op (inl v) c refl refl
closed grammar.Op (inr (inl v)) c = regular grammar.Op (inr (inl v)) c refl refl
closed grammar.Op (inr (inr (inl v))) c = regular grammar.Op (inr (inr (inl v))) c refl refl
closed grammar.Op (inr (inr (inr (inl v)))) c = regular grammar.Op (inr (inr (inr (inl v)))) c refl refl
closed grammar.Op (inr (inr (inr (inr (inl v))))) c = regular grammar.Op (inr (inr (inr (inr (inl v))))) c refl refl
closed grammar.Op (inr (inr (inr (inr (inr v))))) c = regular grammar.Op (inr (inr (inr (inr (inr v))))) c refl refl
closed grammar.Call v c = regular grammar.Call v c refl (call_flat (operand_kinds v.1.0.0 ++ via_kinds v.1.0.1) (parted COMMA operand_kinds v.1.1.1.0) _)
closed grammar.Callee (inl v) c = regular grammar.Callee (inl v) c refl refl
closed grammar.Callee (inr v) c = regular grammar.Callee (inr v) c refl refl
closed grammar.Using (inl v) c = regular grammar.Using (inl v) c refl refl
closed grammar.Using (inr v) c = regular grammar.Using (inr v) c refl refl
closed grammar.Hints (inl v) c = regular grammar.Hints (inl v) c refl refl
closed grammar.Hints (inr v) c = regular grammar.Hints (inr v) c refl refl
closed grammar.Hint (inl v) c = regular grammar.Hint (inl v) c refl refl
closed grammar.Hint (inr (inl v)) c = regular grammar.Hint (inr (inl v)) c refl refl
closed grammar.Hint (inr (inr (inl v))) c = regular grammar.Hint (inr (inr (inl v))) c refl refl
closed grammar.Hint (inr (inr (inr v))) c = regular grammar.Hint (inr (inr (inr v))) c refl refl
closed grammar.PredicateHint (inl v) c = regular grammar.PredicateHint (inl v) c refl refl
closed grammar.PredicateHint (inr v) c = regular grammar.PredicateHint (inr v) c refl refl
closed grammar.At (inl v) c = regular grammar.At (inl v) c refl refl
closed grammar.At (inr v) c = regular grammar.At (inr v) c refl refl
closed grammar.BlockHint (inl v) c = regular grammar.BlockHint (inl v) c refl refl
closed grammar.BlockHint (inr (inl v)) c = regular grammar.BlockHint (inr (inl v)) c refl refl
closed grammar.BlockHint (inr (inr v)) c = regular grammar.BlockHint (inr (inr v)) c refl refl
closed grammar.CellHint (inl v) c = regular grammar.CellHint (inl v) c refl refl
closed grammar.CellHint (inr (inl v)) c = regular grammar.CellHint (inr (inl v)) c refl refl
closed grammar.CellHint (inr (inr (inl v))) c = regular grammar.CellHint (inr (inr (inl v))) c refl refl
closed grammar.CellHint (inr (inr (inr (inl v)))) c = regular grammar.CellHint (inr (inr (inr (inl v)))) c refl refl
closed grammar.CellHint (inr (inr (inr (inr v)))) c = regular grammar.CellHint (inr (inr (inr (inr v)))) c refl refl
closed grammar.FactHint (inl v) c = regular grammar.FactHint (inl v) c refl refl
closed grammar.FactHint (inr (inl v)) c = regular grammar.FactHint (inr (inl v)) c refl refl
closed grammar.FactHint (inr (inr v)) c = regular grammar.FactHint (inr (inr v)) c refl refl
closed (grammar.Nam m) v c = (c.0, name_is v.kind c.1 c.2)
closed (grammar.Num m) (inl v) c = (c.0, number_fits v.kind c.2)
closed (grammar.Num m) (inr v) c = (c.0, number_fits v.kind c.2)
closed (grammar.NameTerm m) v c = tt
closed (grammar.StartTerm m) v c = tt
closed (grammar.Start m n) v c = tt
closed (grammar.Other m n) v c = tt
closed (grammar.Inner n) (inl v) c = tt
closed (grammar.Inner n) (inr v) c = tt
closed (grammar.Tail n) (inl v) c = tt
closed (grammar.Tail n) (inr v) c = tt
closed grammar.Arrow (inl v) c = tt
closed grammar.Arrow (inr v) c = tt

-- the tokens of a module are printed as tokens that are the same module, places aside
pub module_printed : (ts : List Token) (m : Tree grammar.Module) → AreLexemes ts → Derives written (ref grammar.Module) (unmarked ts) m
    → Prints (ref grammar.Module) (spell grammar.Module m) (bare grammar.Module m)
module_printed ts m l d =
    derivations.induction written (Says Printed) (λ n p v s u k. closed n v (clean Printed (written_rule n) p v s u k)) (ref grammar.Module) (unmarked ts) m d
    (unmarked-is Which ts) (subst AreLexemes (sym (tokens_of-unmarked Which ts)) l)
