-- One step of the scan: what was read so far goes on with what stands at the front of the rest.
use Rattle.std.proofs.Common.{◌≡◌, ℕ, zero, suc, ◌+◌, ◌-◌, ◌<◌, ◌≤◌, Bool, true, false, nat_le, ◌&&◌, if◌then◌else◌, List, [], ◌∷◌, ◌++◌, Option, Some, None, refl, ap, sym, ◌∙◌, subst, append_assoc, append-nil, length, take, drop, length-drop, arith}
use Rattle.std.specs.Prelude.{take_while}
use Rattle.std.specs.Cmp.{unsigned_Decides}
use Rattle.std.proofs.lemmas.Bool.{and_parts}
use Rattle.std.proofs.lemmas.Grind.{common_steps}
use Rattle.bed_lex.specs.declared.token.Token.{Token}
use Rattle.bed_lex.specs.declared.token.Kind.{Kind}
use Rattle.bed_lex.specs.declared.token.Kind.TheVariants as kind
use Rattle.bed_lex.specs.declared.token.LexError.{LexError}
use Rattle.bed_lex.specs.declared.token.LexError.TheVariants as error
use Rattle.bed_lex.specs.declared.front.Front.{Front}
use Rattle.bed_lex.specs.declared.front.Front.TheVariants as front
use Rattle.bed_lex.specs.Numbers.{number_value}
use Rattle.bed_lex.specs.Tokens.{is_blank, is_digit, is_name_byte, is_byte_at, run_length, line_length, fixed_word, mark_at, fixed_front, number_front, name_front, run_front, mark_front, front_at, front_of, Lexed, ends, skips, word, number, name, bad_byte, bad_number, long_name}
use Rattle.bed_lex.proofs.MarkLemmas.{mark_sized}

rest_is : (t : List ℕ) (at : ℕ) → take (length t - at) (drop at t) ≡ drop at t
rest_is t at = grind (arith, common_steps)

further : (t : List ℕ) (at n : ℕ) → drop n (drop at t) ≡ drop (at + n) t
further t at n = grind (arith, common_steps)

here : (t : List ℕ) (at : ℕ) (f : Front) → f ≡ front_of (take (length t - at) (drop at t)) → front_of (drop at t) ≡ f
here t at f h = sym (ap front_of (rest_is t at)) ∙ sym h

pub fits : (t : List ℕ) (at n : ℕ) → at ≤ length t → n ≤ length (take (length t - at) (drop at t)) → at + n ≤ length t
fits t at n h k = omega (arith, ap length (rest_is t at), length-drop at t)

-- what the tokens so far are for the whole text
abbrev pub SoFar : List ℕ → ℕ → List Token → Type 0
SoFar t at out = (ts : List Token) (e : Option LexError) → Lexed at (drop at t) ts e → Lexed 0 t (out ++ ts) e

stop : (t : List ℕ) (at : ℕ) (out : List Token) (e : Option LexError) → SoFar t at out → Lexed at (drop at t) [] e → Lexed 0 t out e
stop t at out e s l = subst (λ z. Lexed 0 t z e) (append-nil out) (s [] e l)

pub at_end : (t : List ℕ) (at : ℕ) (out : List Token) → SoFar t at out → front.End ≡ front_of (take (length t - at) (drop at t)) → Lexed 0 t out None
at_end t at out s h = stop t at out None s (ends at (drop at t) (here t at front.End h))

pub at_bad_byte : (t : List ℕ) (at : ℕ) (out : List Token) → SoFar t at out → front.BadByte ≡ front_of (take (length t - at) (drop at t)) → Lexed 0 t out (Some (error.BadByte at))
at_bad_byte t at out s h = stop t at out _ s (bad_byte at (drop at t) (here t at front.BadByte h))

pub at_bad_number : (t : List ℕ) (at : ℕ) (out : List Token) → SoFar t at out → front.BadNumber ≡ front_of (take (length t - at) (drop at t)) → Lexed 0 t out (Some (error.Number at))
at_bad_number t at out s h = stop t at out _ s (bad_number at (drop at t) (here t at front.BadNumber h))

pub at_long_name : (t : List ℕ) (at : ℕ) (out : List Token) → SoFar t at out → front.LongName ≡ front_of (take (length t - at) (drop at t)) → Lexed 0 t out (Some (error.LongName at))
at_long_name t at out s h = stop t at out _ s (long_name at (drop at t) (here t at front.LongName h))

pub at_skip : (t : List ℕ) (at n : ℕ) (out : List Token) → SoFar t at out → front.Skip n ≡ front_of (take (length t - at) (drop at t)) → SoFar t (at + n) out
at_skip t at n out s h ts e l = s ts e (skips at n (drop at t) ts e (here t at (front.Skip n) h) (subst (λ z. Lexed (at + n) z ts e) (sym (further t at n)) l))

-- one more token
more : (t : List ℕ) (at n : ℕ) (k : Kind) (out pushed : List Token) → SoFar t at out → pushed ≡ out ++ record { kind = k; at = at } ∷ []
    → ((ts : List Token) (e : Option LexError) → Lexed (at + n) (drop n (drop at t)) ts e → Lexed at (drop at t) (record { kind = k; at = at } ∷ ts) e)
    → SoFar t (at + n) pushed
more t at n k out pushed s p step ts e l =
    subst (λ z. Lexed 0 t (z ++ ts) e) (sym p) (subst (λ z. Lexed 0 t z e) (sym (append_assoc out (record { kind = k; at = at } ∷ []) ts))
    (s (record { kind = k; at = at } ∷ ts) e (step ts e (subst (λ z. Lexed (at + n) z ts e) (sym (further t at n)) l))))

pub at_word : (t : List ℕ) (at i n : ℕ) (out pushed : List Token) → SoFar t at out → front.Word i n ≡ front_of (take (length t - at) (drop at t))
    → pushed ≡ out ++ record { kind = kind.Word i; at = at } ∷ [] → SoFar t (at + n) pushed
at_word t at i n out pushed s h p = more t at n (kind.Word i) out pushed s p (λ ts e l. word at i n (drop at t) ts e (here t at (front.Word i n) h) l)

pub at_number : (t : List ℕ) (at v n : ℕ) (out pushed : List Token) → SoFar t at out → front.Number v n ≡ front_of (take (length t - at) (drop at t))
    → pushed ≡ out ++ record { kind = kind.Number v; at = at } ∷ [] → SoFar t (at + n) pushed
at_number t at v n out pushed s h p = more t at n (kind.Number v) out pushed s p (λ ts e l. number at v n (drop at t) ts e (here t at (front.Number v n) h) l)

pub at_name : (t : List ℕ) (at n : ℕ) (bytes : List ℕ) (out pushed : List Token) → SoFar t at out → front.Name n ≡ front_of (take (length t - at) (drop at t))
    → bytes ≡ take n (drop at t) → pushed ≡ out ++ record { kind = kind.Name (record { bytes = bytes; at = at }); at = at } ∷ [] → SoFar t (at + n) pushed
at_name t at n bytes out pushed s h b p =
    more t at n (kind.Name (record { bytes = take n (drop at t); at = at })) out pushed s
    (subst (λ z. pushed ≡ out ++ record { kind = kind.Name (record { bytes = z; at = at }); at = at } ∷ []) b p)
    (λ ts e l. name at n (drop at t) ts e (here t at (front.Name n) h) l)

-- the bytes of a name are the first ones of the rest
pub name_bytes : (t : List ℕ) (at n : ℕ) → take n (take (length t - at) (drop at t)) ≡ take n (drop at t)
name_bytes t at n = ap (take n) (rest_is t at)

-- a text has one list of tokens, and one first place that stands in none
pub one_scan : (at : ℕ) (t : List ℕ) (ts us : List Token) (e f : Option LexError) → Lexed at t ts e → Lexed at t us f → (ts ≡ us) × (e ≡ f)
one_scan at t ts us e f (ends _ _ h) (ends _ _ k) = (refl, refl)
one_scan at t ts us e f (ends _ _ h) (skips _ m _ _ _ k d) = absurd (cc)
one_scan at t ts us e f (ends _ _ h) (word _ i m _ _ _ k d) = absurd (cc)
one_scan at t ts us e f (ends _ _ h) (number _ i m _ _ _ k d) = absurd (cc)
one_scan at t ts us e f (ends _ _ h) (name _ m _ _ _ k d) = absurd (cc)
one_scan at t ts us e f (ends _ _ h) (bad_byte _ _ k) = absurd (cc)
one_scan at t ts us e f (ends _ _ h) (bad_number _ _ k) = absurd (cc)
one_scan at t ts us e f (ends _ _ h) (long_name _ _ k) = absurd (cc)
one_scan at t ts us e f (bad_byte _ _ h) (ends _ _ k) = absurd (cc)
one_scan at t ts us e f (bad_byte _ _ h) (skips _ m _ _ _ k d) = absurd (cc)
one_scan at t ts us e f (bad_byte _ _ h) (word _ i m _ _ _ k d) = absurd (cc)
one_scan at t ts us e f (bad_byte _ _ h) (number _ i m _ _ _ k d) = absurd (cc)
one_scan at t ts us e f (bad_byte _ _ h) (name _ m _ _ _ k d) = absurd (cc)
one_scan at t ts us e f (bad_byte _ _ h) (bad_byte _ _ k) = (refl, refl)
one_scan at t ts us e f (bad_byte _ _ h) (bad_number _ _ k) = absurd (cc)
one_scan at t ts us e f (bad_byte _ _ h) (long_name _ _ k) = absurd (cc)
one_scan at t ts us e f (bad_number _ _ h) (ends _ _ k) = absurd (cc)
one_scan at t ts us e f (bad_number _ _ h) (skips _ m _ _ _ k d) = absurd (cc)
one_scan at t ts us e f (bad_number _ _ h) (word _ i m _ _ _ k d) = absurd (cc)
one_scan at t ts us e f (bad_number _ _ h) (number _ i m _ _ _ k d) = absurd (cc)
one_scan at t ts us e f (bad_number _ _ h) (name _ m _ _ _ k d) = absurd (cc)
one_scan at t ts us e f (bad_number _ _ h) (bad_byte _ _ k) = absurd (cc)
one_scan at t ts us e f (bad_number _ _ h) (bad_number _ _ k) = (refl, refl)
one_scan at t ts us e f (bad_number _ _ h) (long_name _ _ k) = absurd (cc)
one_scan at t ts us e f (long_name _ _ h) (ends _ _ k) = absurd (cc)
one_scan at t ts us e f (long_name _ _ h) (skips _ m _ _ _ k d) = absurd (cc)
one_scan at t ts us e f (long_name _ _ h) (word _ i m _ _ _ k d) = absurd (cc)
one_scan at t ts us e f (long_name _ _ h) (number _ i m _ _ _ k d) = absurd (cc)
one_scan at t ts us e f (long_name _ _ h) (name _ m _ _ _ k d) = absurd (cc)
one_scan at t ts us e f (long_name _ _ h) (bad_byte _ _ k) = absurd (cc)
one_scan at t ts us e f (long_name _ _ h) (bad_number _ _ k) = absurd (cc)
one_scan at t ts us e f (long_name _ _ h) (long_name _ _ k) = (refl, refl)
one_scan at t ts us e f (skips _ n _ _ _ h c) (ends _ _ k) = absurd (cc)
one_scan at t ts us e f (skips _ n _ _ _ h c) (skips _ m _ _ _ k d) =
    let same : n ≡ m = cc in one_scan (at + n) (drop n t) ts us e f c (subst (λ i. Lexed (at + i) (drop i t) us f) (sym same) d)
one_scan at t ts us e f (skips _ n _ _ _ h c) (word _ i m _ _ _ k d) = absurd (cc)
one_scan at t ts us e f (skips _ n _ _ _ h c) (number _ i m _ _ _ k d) = absurd (cc)
one_scan at t ts us e f (skips _ n _ _ _ h c) (name _ m _ _ _ k d) = absurd (cc)
one_scan at t ts us e f (skips _ n _ _ _ h c) (bad_byte _ _ k) = absurd (cc)
one_scan at t ts us e f (skips _ n _ _ _ h c) (bad_number _ _ k) = absurd (cc)
one_scan at t ts us e f (skips _ n _ _ _ h c) (long_name _ _ k) = absurd (cc)
one_scan at t ts us e f (word _ j n _ _ _ h c) (ends _ _ k) = absurd (cc)
one_scan at t ts us e f (word _ j n _ _ _ h c) (skips _ m _ _ _ k d) = absurd (cc)
one_scan at t ts us e f (word _ j n _ rs _ h c) (word _ i m _ ss _ k d) =
    let same : n ≡ m = cc in
    let kinds : j ≡ i = cc in
    let rest = one_scan (at + n) (drop n t) rs ss e f c (subst (λ i. Lexed (at + i) (drop i t) ss f) (sym same) d) in
    let lists : rs ≡ ss = rest.0 in (cc, rest.1)
one_scan at t ts us e f (word _ j n _ _ _ h c) (number _ i m _ _ _ k d) = absurd (cc)
one_scan at t ts us e f (word _ j n _ _ _ h c) (name _ m _ _ _ k d) = absurd (cc)
one_scan at t ts us e f (word _ j n _ _ _ h c) (bad_byte _ _ k) = absurd (cc)
one_scan at t ts us e f (word _ j n _ _ _ h c) (bad_number _ _ k) = absurd (cc)
one_scan at t ts us e f (word _ j n _ _ _ h c) (long_name _ _ k) = absurd (cc)
one_scan at t ts us e f (number _ j n _ _ _ h c) (ends _ _ k) = absurd (cc)
one_scan at t ts us e f (number _ j n _ _ _ h c) (skips _ m _ _ _ k d) = absurd (cc)
one_scan at t ts us e f (number _ j n _ _ _ h c) (word _ i m _ _ _ k d) = absurd (cc)
one_scan at t ts us e f (number _ j n _ rs _ h c) (number _ i m _ ss _ k d) =
    let same : n ≡ m = cc in
    let values : j ≡ i = cc in
    let rest = one_scan (at + n) (drop n t) rs ss e f c (subst (λ i. Lexed (at + i) (drop i t) ss f) (sym same) d) in
    let lists : rs ≡ ss = rest.0 in (cc, rest.1)
one_scan at t ts us e f (number _ j n _ _ _ h c) (name _ m _ _ _ k d) = absurd (cc)
one_scan at t ts us e f (number _ j n _ _ _ h c) (bad_byte _ _ k) = absurd (cc)
one_scan at t ts us e f (number _ j n _ _ _ h c) (bad_number _ _ k) = absurd (cc)
one_scan at t ts us e f (number _ j n _ _ _ h c) (long_name _ _ k) = absurd (cc)
one_scan at t ts us e f (name _ n _ _ _ h c) (ends _ _ k) = absurd (cc)
one_scan at t ts us e f (name _ n _ _ _ h c) (skips _ m _ _ _ k d) = absurd (cc)
one_scan at t ts us e f (name _ n _ _ _ h c) (word _ i m _ _ _ k d) = absurd (cc)
one_scan at t ts us e f (name _ n _ _ _ h c) (number _ i m _ _ _ k d) = absurd (cc)
one_scan at t ts us e f (name _ n _ rs _ h c) (name _ m _ ss _ k d) =
    let same : n ≡ m = cc in
    let rest = one_scan (at + n) (drop n t) rs ss e f c (subst (λ i. Lexed (at + i) (drop i t) ss f) (sym same) d) in
    let lists : rs ≡ ss = rest.0 in (cc, rest.1)
one_scan at t ts us e f (name _ n _ _ _ h c) (bad_byte _ _ k) = absurd (cc)
one_scan at t ts us e f (name _ n _ _ _ h c) (bad_number _ _ k) = absurd (cc)
one_scan at t ts us e f (name _ n _ _ _ h c) (long_name _ _ k) = absurd (cc)

-- what stands at the front takes bytes
abbrev Moves : Front → Type 0
Moves (front.Skip n) = 0 < n
Moves (front.Word i n) = 0 < n
Moves (front.Number v n) = 0 < n
Moves (front.Name n) = 0 < n
Moves _ = Unit {0}

by_branch : (b : Bool) (x y : Front) → (b ≡ true → Moves x) → (b ≡ false → Moves y) → Moves (if b then x else y)
by_branch true x y f g = f refl
by_branch false x y f g = g refl

fixed_moves : (o : Option ℕ) (n : ℕ) (other : Front) → 0 < n → Moves other → Moves (fixed_front o n other)
fixed_moves None n other h m = m
fixed_moves (Some i) n other h m = h

number_moves : (o : Option ℕ) (n : ℕ) → 0 < n → Moves (number_front o n)
number_moves None n h = tt
number_moves (Some v) n h = h

name_moves : (n : ℕ) → 0 < n → Moves (name_front n)
name_moves n h = by_branch (nat_le n 255) (front.Name n) front.LongName (λ _. h) (λ _. tt)

run_moves : (b : Bool) (w : List ℕ) → 0 < length w → Moves (run_front b w)
run_moves true w h = number_moves (number_value w) (length w) h
run_moves false w h = fixed_moves (fixed_word w) (length w) (name_front (length w)) h (name_moves (length w) h)

mark_moves : (text : List ℕ) → Moves (mark_front text)
mark_moves text = by_mark (mark_at text) refl
  where
    by_mark : (o : Option (List ℕ)) → mark_at text ≡ o → Moves (mark_front text)
    by_mark None m = rw m tt
    by_mark (Some x) m = rw m (fixed_moves (fixed_word x) (length x) front.BadByte (mark_sized text x m).0 tt)

taken_begins : (n b : ℕ) (rest : List ℕ) → 0 < n → 0 < length (take n (b ∷ rest))
taken_begins zero b rest h = absurd (omega arith)
taken_begins (suc n) b rest h = omega arith

-- a longest run that begins with its first byte isn't empty
run_begins : (p : ℕ → Bool) (b : ℕ) (rest : List ℕ) → p b ≡ true → 0 < length (take_while p (b ∷ rest))
run_begins p b rest h = rw h (taken_begins _ b rest (omega arith))

comment_moves : (b : ℕ) (rest : List ℕ) → is_byte_at (b ∷ rest) 0 47 ≡ true → 0 < line_length (b ∷ rest)
comment_moves b rest h = let slash : b ≡ 47 = (unsigned_Decides b 47).0 h in rw slash (taken_begins _ 47 rest (omega arith))

front_moves : (b : ℕ) (rest : List ℕ) → Moves (front_at b (b ∷ rest))
front_moves b rest =
    by_branch (is_byte_at (b ∷ rest) 0 47 && is_byte_at (b ∷ rest) 1 47) _ _ (λ h. comment_moves b rest (and_parts _ _ h).0) (λ _.
    by_branch (is_blank b) _ _ (λ _. omega arith) (λ _.
    by_branch (is_name_byte b) _ _
    (λ h. run_moves (is_digit b) (take (run_length (b ∷ rest)) (b ∷ rest)) (taken_begins (run_length (b ∷ rest)) b rest (run_begins is_name_byte b rest h)))
    (λ _. mark_moves (b ∷ rest))))

abbrev Scan : ℕ → List ℕ → Type 0
Scan at text = (ts : List Token) × (e : Option LexError) × Lexed at text ts e

-- one step, where the rest has been scanned
scan_from : (at : ℕ) (text : List ℕ) (f : Front) → front_of text ≡ f → Moves f → ((n : ℕ) → 0 < n → Scan (at + n) (drop n text)) → Scan at text
scan_from at text front.End h m known = ([], None, ends at text h)
scan_from at text (front.Skip n) h m known = let (ts, e, l) = known n m in (ts, e, skips at n text ts e h l)
scan_from at text (front.Word i n) h m known = let (ts, e, l) = known n m in (_, e, word at i n text ts e h l)
scan_from at text (front.Number v n) h m known = let (ts, e, l) = known n m in (_, e, number at v n text ts e h l)
scan_from at text (front.Name n) h m known = let (ts, e, l) = known n m in (_, e, name at n text ts e h l)
scan_from at text front.BadByte h m known = ([], Some (error.BadByte at), bad_byte at text h)
scan_from at text front.BadNumber h m known = ([], Some (error.Number at), bad_number at text h)
scan_from at text front.LongName h m known = ([], Some (error.LongName at), long_name at text h)

scan_within : (k at : ℕ) (text : List ℕ) → length text ≤ k → Scan at text
unfolding front_of
scan_within k at [] h = ([], None, ends at [] refl)
scan_within zero at (b ∷ rest) h = absurd (omega arith)
scan_within (suc k) at (b ∷ rest) h =
    scan_from at (b ∷ rest) (front_of (b ∷ rest)) refl (front_moves b rest)
    (λ n m. scan_within k (at + n) (drop n (b ∷ rest)) (omega (arith, length-drop n (b ∷ rest))))

-- a text has a list of tokens, and a first place that stands in none or no such place
pub a_scan : (text : List ℕ) → Scan 0 text
a_scan text = scan_within (length text) 0 text (omega arith)

-- a place that stands in no token isn't want of memory
abbrev pub IsNoMemory : Option LexError → Type 0
IsNoMemory (Some error.Memory) = ⊥
IsNoMemory _ = Unit {0}

pub no_memory : (at : ℕ) (t : List ℕ) (ts : List Token) (e : Option LexError) → Lexed at t ts e → IsNoMemory e
no_memory at t ts e (ends _ _ h) = tt
no_memory at t ts e (skips _ n _ _ _ h l) = no_memory (at + n) (drop n t) ts e l
no_memory at t ts e (word _ i n _ rs _ h l) = no_memory (at + n) (drop n t) rs e l
no_memory at t ts e (number _ v n _ rs _ h l) = no_memory (at + n) (drop n t) rs e l
no_memory at t ts e (name _ n _ rs _ h l) = no_memory (at + n) (drop n t) rs e l
no_memory at t ts e (bad_byte _ _ h) = tt
no_memory at t ts e (bad_number _ _ h) = tt
no_memory at t ts e (long_name _ _ h) = tt
