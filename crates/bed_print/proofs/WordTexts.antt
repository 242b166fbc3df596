-- The texts of words, as they are printed.
use Rattle.std.proofs.Common.{◌≡◌, ℕ, suc, ◌+◌, ◌-◌, ◌<◌, ◌≤◌, ◌^◌, Bool, true, false, nat_eq, List, [], ◌∷◌, ◌++◌, Option, None, inl, inr, refl, sym, ap, ◌∙◌, subst, arith, append_assoc, append-nil}
use Rattle.std.proofs.lemmas.Bool.Decides.{nat_tests}
use Rattle.std.specs.Option.{option_or}
use Rattle.bed_grammar.specs.Grammar.{ref}
use Rattle.bed_lang.specs.declared.word.Name.{Name}
use Rattle.bed_lang.specs.declared.word.Var.TheVariants as var
use Rattle.bed_lang.specs.declared.word.Word as word
use Rattle.bed_lang.specs.declared.limit.Which.{Which}
use Rattle.bed_lang.specs.declared.limit.Which.TheVariants as limit
use Rattle.bed_lex.specs.declared.token.Kind.{Kind}
use Rattle.bed_lex.specs.declared.token.Kind.TheVariants as kind
use Rattle.bed_read.specs.declared.parts.Piece.{Piece}
use Rattle.bed_read.specs.declared.parts.Piece.TheVariants as piece
use Rattle.bed_read.specs.Classes.{is_name, AMPERSAND, OLD, RESULT, LEFT_PAREN, RIGHT_PAREN, STAR}
use Rattle.bed_read.specs.Trees.{added, joined, summed, word_of}
use Rattle.bed_read.specs.Written.{past, Part, Sum, Sums, Word, Num}
use Rattle.bed_print.specs.Kinds.{fixed, sum_of, word_kinds, sum_kinds}
use Rattle.bed_print.proofs.Places.{bare_name, bare_word}
use Rattle.bed_print.proofs.Nonterminals.{placed, sign_class, sign_kind}
use Rattle.bed_print.proofs.Clean.{Prints, prints_seq, prints_left, prints_right, prints_rule}
use Rattle.bed_print.proofs.WordTrees.{sum_of-Number, sum_of-Var, sum_of-Label, sum_of-Times, sum_of-added}
use Rattle.bed_print.proofs.Pieces.{prints_fixed, prints_name, prints_number, not_past, no_more_parts, more_parts}
use Rattle.bed_print.proofs.Sums as sums
use Rattle.bed_print.proofs.Sums.{Fits, piece_of, piece_is, joined_piece}

-- ---- the alternatives of a part

module _ (m : Option Which) (e : m ≡ None) (n : ℕ) where
  number_part : (v : ℕ) → v < 2 ^ 32 → Prints (ref (Part m n)) (kind.Number v ∷ []) (piece.Word 0 (word.Number v))
  number_part v is = prints_rule (Part m n) (kind.Number v ∷ []) (inl (0, v)) (prints_left (ref (Num m)) _ (kind.Number v ∷ []) (0, v) (prints_number m v e is))

  name_part : (x : Name) → is_name x.bytes ≡ true → Prints (ref (Part m n)) (kind.Name x ∷ []) (piece.Name (bare_name x))
  name_part x is =
      prints_rule (Part m n) (kind.Name x ∷ []) (inr (inl (bare_name x)))
      (prints_right _ _ _ _ (prints_left _ _ _ _ (prints_name m x e is)))

  label_part : (x : Name) → is_name x.bytes ≡ true → Prints (ref (Part m n)) (fixed AMPERSAND ∷ kind.Name x ∷ []) (piece.Word 0 (word.Label (bare_name x)))
  label_part x is =
      prints_rule (Part m n) (fixed AMPERSAND ∷ kind.Name x ∷ []) (inr (inr (inl (placed (fixed AMPERSAND), bare_name x))))
      (prints_right _ _ _ _ (prints_right _ _ _ _ (prints_left _ _ _ _
      (prints_seq _ _ (fixed AMPERSAND ∷ []) (kind.Name x ∷ []) _ _ (prints_fixed AMPERSAND m refl e) (prints_name None x refl is)))))

  old_part : (x : Name) → is_name x.bytes ≡ true → Prints (ref (Part m n)) (fixed OLD ∷ kind.Name x ∷ []) (piece.Word 0 (word.Var (var.Old (bare_name x))))
  old_part x is =
      prints_rule (Part m n) (fixed OLD ∷ kind.Name x ∷ []) (inr (inr (inr (inl (placed (fixed OLD), bare_name x)))))
      (prints_right _ _ _ _ (prints_right _ _ _ _ (prints_right _ _ _ _ (prints_left _ _ _ _
      (prints_seq _ _ (fixed OLD ∷ []) (kind.Name x ∷ []) _ _ (prints_fixed OLD m refl e) (prints_name None x refl is))))))

  answer_part : Prints (ref (Part m n)) (fixed RESULT ∷ []) (piece.Word 0 (word.Var (var.Answer 0)))
  answer_part =
      prints_rule (Part m n) (fixed RESULT ∷ []) (inr (inr (inr (inr (inl (placed (fixed RESULT)))))))
      (prints_right _ _ _ _ (prints_right _ _ _ _ (prints_right _ _ _ _ (prints_right _ _ _ _ (prints_left _ _ _ _ (prints_fixed RESULT m refl e))))))

  module _ (j : ℕ) (inside : n ≡ j + 1) where
    one_fewer : n - 1 ≡ j
    one_fewer = omega (arith, inside)

    may_open : option_or m (past limit.Nesting n) ≡ None
    may_open = ap (λ z. option_or z (past limit.Nesting n)) e ∙ not_past limit.Nesting n (omega (arith, inside))

    times_part : (v : ℕ) (ks : List Kind) (w : word.Word) → v < 2 ^ 32 → Prints (ref (Word j)) ks w
        → Prints (ref (Part m n)) (fixed LEFT_PAREN ∷ kind.Number v ∷ fixed STAR ∷ (ks ++ fixed RIGHT_PAREN ∷ [])) (piece.Word 0 (word.Times v w))
    times_part v ks w is p =
        let inner : Prints (ref (Word (n - 1))) ks w = subst (λ z. Prints (ref (Word z)) ks w) (sym one_fewer) p in
        prints_rule (Part m n) (fixed LEFT_PAREN ∷ kind.Number v ∷ fixed STAR ∷ (ks ++ fixed RIGHT_PAREN ∷ []))
        (inr (inr (inr (inr (inr (inl (placed (fixed LEFT_PAREN), ((0, v), (placed (fixed STAR), (w, placed (fixed RIGHT_PAREN)))))))))))
        (prints_right _ _ _ _ (prints_right _ _ _ _ (prints_right _ _ _ _ (prints_right _ _ _ _ (prints_right _ _ _ _ (prints_left _ _ _ _
        (prints_seq _ _ (fixed LEFT_PAREN ∷ []) (kind.Number v ∷ fixed STAR ∷ (ks ++ fixed RIGHT_PAREN ∷ [])) _ _ (prints_fixed LEFT_PAREN (option_or m (past limit.Nesting n)) refl may_open)
        (prints_seq _ _ (kind.Number v ∷ []) (fixed STAR ∷ (ks ++ fixed RIGHT_PAREN ∷ [])) _ _ (prints_number None v refl is)
        (prints_seq _ _ (fixed STAR ∷ []) (ks ++ fixed RIGHT_PAREN ∷ []) _ _ (prints_fixed STAR None refl refl)
        (prints_seq _ _ ks (fixed RIGHT_PAREN ∷ []) _ _ inner (prints_fixed RIGHT_PAREN None refl refl)))))))))))

    pub bracket_part : (ks : List Kind) (w : word.Word) → Prints (ref (Word j)) ks w
        → Prints (ref (Part m n)) (fixed LEFT_PAREN ∷ (ks ++ fixed RIGHT_PAREN ∷ [])) (piece.Word 0 w)
    bracket_part ks w p =
        let inner : Prints (ref (Word (n - 1))) ks w = subst (λ z. Prints (ref (Word z)) ks w) (sym one_fewer) p in
        prints_rule (Part m n) (fixed LEFT_PAREN ∷ (ks ++ fixed RIGHT_PAREN ∷ []))
        (inr (inr (inr (inr (inr (inr (placed (fixed LEFT_PAREN), (w, placed (fixed RIGHT_PAREN)))))))))
        (prints_right _ _ _ _ (prints_right _ _ _ _ (prints_right _ _ _ _ (prints_right _ _ _ _ (prints_right _ _ _ _ (prints_right _ _ _ _
        (prints_seq _ _ (fixed LEFT_PAREN ∷ []) (ks ++ fixed RIGHT_PAREN ∷ []) _ _ (prints_fixed LEFT_PAREN (option_or m (past limit.Nesting n)) refl may_open)
        (prints_seq _ _ ks (fixed RIGHT_PAREN ∷ []) _ _ inner (prints_fixed RIGHT_PAREN None refl refl)))))))))

-- ---- words

-- a word as a part
abbrev pub PartText : word.Word → ℕ → Type 0
PartText w n = (m : Option Which) → m ≡ None → Prints (ref (Part m n)) (sum_of w 0) (piece_of w)

-- a word as the first parts of a sum, before further parts
abbrev pub SumText : word.Word → ℕ → ℕ → Type 0
SumText w n k = (m : Option Which) → m ≡ None → (bs : List (Bool × word.Word)) (ks : List Kind)
    → ((j : ℕ) → 255 ≤ j + k → Prints (ref (Sums j n)) ks bs) → Prints (ref (Sum m n)) (sum_of w k ++ ks) (summed (piece_of w) bs)

part_is : (w : word.Word) (n : ℕ) (ks : List Kind) (p : Piece) → sum_of w 0 ≡ ks → piece_of w ≡ p
    → ((m : Option Which) → m ≡ None → Prints (ref (Part m n)) ks p) → PartText w n
part_is w n ks p e f h m g =
    subst (λ z. Prints (ref (Part m n)) z (piece_of w)) (sym e) (subst (λ z. Prints (ref (Part m n)) ks z) (sym f) (h m g))

sum_from_part : (w : word.Word) (n k : ℕ) → sum_of w k ≡ sum_of w 0 → PartText w n → SumText w n k
sum_from_part w n k e part m g bs ks rest =
    subst (λ z. Prints (ref (Sum m n)) (z ++ ks) (summed (piece_of w) bs)) (sym e)
    (prints_rule (Sum m n) (sum_of w 0 ++ ks) (piece_of w, bs)
    (prints_seq (ref (Part m n)) (ref (Sums 255 n)) (sum_of w 0) ks (piece_of w) bs (part m g) (rest 255 (omega arith))))

-- what is printed with room for further parts, and in brackets
sum_open : (f g : ℕ → List Kind) (c k : ℕ) (ks : List Kind) → sum_kinds f c g (suc k) ++ ks ≡ f k ++ fixed c ∷ (g 0 ++ ks)
sum_open f g c k ks = rw (some k, less k, append-nil (g 0)) (append_assoc (f k) (fixed c ∷ g 0) ks)
  where
    some : (k : ℕ) → nat_eq (suc k) 0 ≡ false
    some k = grind (arith, nat_tests)

    less : (k : ℕ) → suc k - 1 ≡ k
    less k = omega arith

sum_closed : (f g : ℕ → List Kind) (c : ℕ) → sum_kinds f c g 0 ≡ fixed LEFT_PAREN ∷ ((f 254 ++ fixed c ∷ (g 0 ++ [])) ++ fixed RIGHT_PAREN ∷ [])
sum_closed f g c = rw (append-nil (g 0)) (sym (ap (λ z. fixed LEFT_PAREN ∷ z) (append_assoc (f 254) (fixed c ∷ g 0) (fixed RIGHT_PAREN ∷ []))))

-- the parts that come after the left part of a sum
after_left : (b : word.Word) (s : Bool) (n k : ℕ) (ks : List Kind) (bs : List (Bool × word.Word)) → k ≤ 254 → PartText b n
    → ((j : ℕ) → 255 ≤ j + suc k → Prints (ref (Sums j n)) ks bs)
    → (j : ℕ) → 255 ≤ j + k → Prints (ref (Sums j n)) (sign_kind s ∷ (sum_of b 0 ++ ks)) ((s, word_of (piece_of b)) ∷ bs)
after_left b s n k ks bs small part rest j h =
    more_parts j (j - 1) n (omega (arith, h, small)) s (sum_of b 0) ks (piece_of b) bs
    (part (past limit.Terms j) (not_past limit.Terms j (omega (arith, h, small))))
    (rest (j - 1) (omega (arith, h, small)))

open_text : (a b : word.Word) (s : Bool) (n k : ℕ) → suc k ≤ 255 → Fits a n k → Fits b n 0 → SumText a n k → PartText b n → SumText (added a (s, b)) n (suc k)
open_text a b s n k small fa fb ta tb m g bs ks rest =
    let left : Prints (ref (Sum m n)) (sum_of a k ++ (sign_kind s ∷ (sum_of b 0 ++ ks))) (summed (joined (piece_of a) (s, word_of (piece_of b))) bs) =
    ta m g ((s, word_of (piece_of b)) ∷ bs) (sign_kind s ∷ (sum_of b 0 ++ ks)) (after_left b s n k ks bs (omega (arith, small)) tb rest) in
    let kinds : sum_of (added a (s, b)) (suc k) ++ ks ≡ sum_of a k ++ (sign_kind s ∷ (sum_of b 0 ++ ks)) =
    ap (λ z. z ++ ks) (sum_of-added a b s (suc k)) ∙ sum_open (sum_of a) (sum_of b) (sign_class s) k ks in
    subst (λ z. Prints (ref (Sum m n)) z (summed (piece_of (added a (s, b))) bs)) (sym kinds)
    (subst (λ z. Prints (ref (Sum m n)) (sum_of a k ++ (sign_kind s ∷ (sum_of b 0 ++ ks))) (summed z bs))
    (joined_piece a b s (piece_is a n k fa) (piece_is b n 0 fb)) left)

closed_text : (a b : word.Word) (s : Bool) (n : ℕ) → Fits a n 254 → Fits b n 0 → SumText a n 254 → PartText b n → PartText (added a (s, b)) (suc n)
closed_text a b s n fa fb ta tb =
    part_is (added a (s, b)) (suc n) (fixed LEFT_PAREN ∷ (inside ++ fixed RIGHT_PAREN ∷ [])) (piece.Word 0 (word_of sum))
    (sum_of-added a b s 0 ∙ sum_closed (sum_of a) (sum_of b) (sign_class s))
    (sums.piece-added a b s ∙ ap (piece.Word 0) (sym (ap word_of (sums.piece-added a b s)) ∙ sym (ap word_of same)))
    (λ m e. bracket_part m e (suc n) n (omega arith) inside (word_of sum) word_text)
  where
    inside : List Kind
    inside = sum_of a 254 ++ (sign_kind s ∷ (sum_of b 0 ++ []))

    sum : Piece
    sum = joined (piece_of a) (s, word_of (piece_of b))

    same : sum ≡ piece_of (added a (s, b))
    same = joined_piece a b s (piece_is a n 254 fa) (piece_is b n 0 fb)

    word_text : Prints (ref (Word n)) inside (word_of sum)
    word_text =
        prints_rule (Word n) inside sum
        (ta None refl ((s, word_of (piece_of b)) ∷ []) (sign_kind s ∷ (sum_of b 0 ++ [])) (after_left b s n 254 [] [] (omega arith) tb (λ j h. no_more_parts j n)))

times_text : (v : ℕ) (a : word.Word) (n : ℕ) → v < 2 ^ 32 → Fits a n 255 → SumText a n 255 → PartText (word.Times v a) (suc n)
times_text v a n small fa ta =
    part_is (word.Times v a) (suc n) (fixed LEFT_PAREN ∷ kind.Number v ∷ fixed STAR ∷ (word_kinds a ++ fixed RIGHT_PAREN ∷ [])) (piece.Word 0 (word.Times v (bare_word a)))
    (sum_of-Times v a 0) (sums.piece-Times v a)
    (λ m e. times_part m e (suc n) n (omega arith) v (word_kinds a) (bare_word a) small
    (subst (λ z. Prints (ref (Word n)) z (bare_word a)) (append-nil (word_kinds a))
    (subst (λ z. Prints (ref (Word n)) (word_kinds a ++ []) z) (piece_is a n 255 fa)
    (prints_rule (Word n) (word_kinds a ++ []) (piece_of a) (ta None refl [] [] (λ j h. no_more_parts j n))))))

-- a part, where no further parts fit
abbrev Texts : word.Word → ℕ → ℕ → Type 0
Texts w n k = (k ≡ 0 → PartText w n) × SumText w n k

leaf_texts : (w : word.Word) (n k : ℕ) → sum_of w k ≡ sum_of w 0 → PartText w n → Texts w n k
leaf_texts w n k e part = (λ z. part, sum_from_part w n k e part)

number_text : (v n : ℕ) → v < 2 ^ 32 → PartText (word.Number v) n
number_text v n h = part_is (word.Number v) n _ _ (sum_of-Number v 0) (sums.piece-Number v) (λ m e. number_part m e n v h)

named_text : (x : Name) (n : ℕ) → is_name x.bytes ≡ true → PartText (word.Var (var.Named x)) n
named_text x n h = part_is (word.Var (var.Named x)) n _ _ (sum_of-Var (var.Named x) 0) (sums.piece-Named x) (λ m e. name_part m e n x h)

old_text : (x : Name) (n : ℕ) → is_name x.bytes ≡ true → PartText (word.Var (var.Old x)) n
old_text x n h = part_is (word.Var (var.Old x)) n _ _ (sum_of-Var (var.Old x) 0) (sums.piece-Old x) (λ m e. old_part m e n x h)

answer_text : (at n : ℕ) → PartText (word.Var (var.Answer at)) n
answer_text at n = part_is (word.Var (var.Answer at)) n _ _ (sum_of-Var (var.Answer at) 0) (sums.piece-Answer at) (λ m e. answer_part m e n)

label_text : (x : Name) (n : ℕ) → is_name x.bytes ≡ true → PartText (word.Label x) n
label_text x n h = part_is (word.Label x) n _ _ (sum_of-Label x 0) (sums.piece-Label x) (λ m e. label_part m e n x h)

none_zero : (k : ℕ) → suc k ≡ 0 → ⊥
none_zero k e = omega (arith, e)

texts : (w : word.Word) (n k : ℕ) → Fits w n k → k ≤ 255 → Texts w n k
texts _ _ _ (sums.number v n k h) small = leaf_texts (word.Number v) n k (sum_of-Number v k ∙ sym (sum_of-Number v 0)) (number_text v n h)
texts _ _ _ (sums.named x n k h) small = leaf_texts (word.Var (var.Named x)) n k (sum_of-Var (var.Named x) k ∙ sym (sum_of-Var (var.Named x) 0)) (named_text x n h)
texts _ _ _ (sums.old x n k h) small = leaf_texts (word.Var (var.Old x)) n k (sum_of-Var (var.Old x) k ∙ sym (sum_of-Var (var.Old x) 0)) (old_text x n h)
texts _ _ _ (sums.answer at n k) small = leaf_texts (word.Var (var.Answer at)) n k (sum_of-Var (var.Answer at) k ∙ sym (sum_of-Var (var.Answer at) 0)) (answer_text at n)
texts _ _ _ (sums.label x n k h) small = leaf_texts (word.Label x) n k (sum_of-Label x k ∙ sym (sum_of-Label x 0)) (label_text x n h)
texts _ _ _ (sums.open_sum a b s n k p q) small = (
  λ e. absurd (none_zero k e),
  open_text a b s n k small p q (texts a n k p (omega (arith, small))).1 ((texts b n 0 q (omega arith)).0 refl),
)
texts _ _ _ (sums.closed_sum a b s n p q) small =
    let part : PartText (added a (s, b)) (suc n) = closed_text a b s n p q (texts a n 254 p (omega arith)).1 ((texts b n 0 q (omega arith)).0 refl) in
    (λ e. part, sum_from_part (added a (s, b)) (suc n) 0 refl part)
texts _ _ _ (sums.times v a n k h p) small =
    leaf_texts (word.Times v a) (suc n) k (sum_of-Times v a k ∙ sym (sum_of-Times v a 0)) (times_text v a n h p (texts a n 255 p (omega arith)).1)

-- a word that fits is printed as a sum, and as a word
pub sum_text : (w : word.Word) (n : ℕ) (m : Option Which) → m ≡ None → Fits w n 255 → Prints (ref (Sum m n)) (word_kinds w) (piece_of w)
sum_text w n m e f =
    subst (λ z. Prints (ref (Sum m n)) z (piece_of w)) (append-nil (word_kinds w))
    ((texts w n 255 f (omega arith)).1 m e [] [] (λ j h. no_more_parts j n))

pub word_text : (w : word.Word) (n : ℕ) → Fits w n 255 → Prints (ref (Word n)) (word_kinds w) (bare_word w)
word_text w n f =
    subst (λ z. Prints (ref (Word n)) (word_kinds w) z) (piece_is w n 255 f) (prints_rule (Word n) (word_kinds w) (piece_of w) (sum_text w n None refl f))
