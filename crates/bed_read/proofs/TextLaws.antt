-- A text is that of one module at most, and of none where it is refused; it has one refusal at most, and one of the two.
use Rattle.std.proofs.Common.{◌≡◌, ℕ, length, List, [], ◌∷◌, ◌++◌, Option, Some, None, Result, Ok, Err, refl, sym, ◌∙◌, ap, ap₂, subst, ◌⊎◌, inl, inr}
use Rattle.bed_grammar.specs.Exact.{FirstError, IsExact, to_end}
use Rattle.bed_grammar.specs.Grammar.{unmarked}
use Rattle.bed_grammar.proofs.Languages.{reads_text}
use Rattle.bed_grammar.proofs.Refusals.{one_first_error, refused_before}
use Rattle.bed_lang.specs.declared.limit.Which.{Which}
use Rattle.bed_lang.specs.declared.module.Module as modules
use Rattle.bed_lex.specs.Tokens.{Lexed}
use Rattle.bed_lex.specs.declared.token.Token.{Token}
use Rattle.bed_lex.specs.declared.token.LexError.{LexError}
use Rattle.bed_lex.specs.declared.token.LexError.TheVariants as fault
use Rattle.bed_lex.proofs.ScanLaws.{one_scan, a_scan, IsNoMemory, no_memory}
use Rattle.bed_read.specs.Written.{Module}
use Rattle.bed_read.specs.Tables.{read}
use Rattle.bed_read.specs.Classes.{IsLexeme}
use Rattle.bed_read.specs.Reading.{IsText, BeginsModule, IsFirstFault, IsBeforeFault, IsFirstWrong, ReadsModule, place, fault_error, error_at, first_error}
use Rattle.bed_read.specs.Laws.{OneModule, IsNotRefused, OneRefusal, HasAnswer}
use Rattle.bed_read.specs.declared.whole.ReadError.{ReadError}
use Rattle.bed_read.specs.declared.whole.ReadError.TheVariants as error
use Rattle.bed_read.proofs.Wholes.{exact_module, complete, faulty, refused_at, whole_begins}

pub one_module : (text : List ℕ) → OneModule text
one_module text m n (ts, lexed, is) (us, again, also) =
    let same : us ≡ ts = (one_scan 0 text us ts None None again lexed).0 in
    let first = reads_text IsLexeme IsText ts (to_end (read Module ts)) (exact_module ts) m is in
    let second = reads_text IsLexeme IsText ts (to_end (read Module ts)) (exact_module ts) n (subst (λ (z : List Token). IsText (unmarked z) n) same also) in
    cc

pub not_refused : (text : List ℕ) → IsNotRefused text
not_refused text m e (ts, lexed, is) reads = complete text m ts lexed is (Err e) reads

-- where the tokens before a fault begin a module, none of them is wrong
none_wrong : (ts rest : List Token) (w : Option Which) (x : LexError) → BeginsModule ts → IsBeforeFault rest (Some x) → FirstError IsLexeme IsText ts rest w → ⊥
none_wrong ts [] w x b h u = h
none_wrong ts (t ∷ rest) w x (more, lexemes, (m, d)) h u =
    refused_before IsLexeme IsText ts (t ∷ rest) w u t rest rest more m refl (subst (λ (z : List Token). IsText (unmarked z ++ more) m) u.split d)

not_both : (text : List ℕ) (x : LexError) (w : Option Which) (at : ℕ) → IsFirstFault text x → IsFirstWrong text w at → ⊥
not_both text x w at (ts, l, b) (us, o, rest, k, before, p, u) =
    let same : ts ≡ us = (one_scan 0 text ts us (Some x) o l k).0 in
    let is : Some x ≡ o = (one_scan 0 text ts us (Some x) o l k).1 in
    none_wrong us rest w x (subst (λ (z : List Token). BeginsModule z) same b) (subst (λ (z : Option LexError). IsBeforeFault rest z) (sym is) before) u

one_fault : (text : List ℕ) (x y : LexError) → IsFirstFault text x → IsFirstFault text y → x ≡ y
one_fault text x y (ts, l, b) (us, k, c) = let same : Some x ≡ Some y = (one_scan 0 text ts us (Some x) (Some y) l k).1 in cc

one_wrong : (text : List ℕ) (w z : Option Which) (at other : ℕ) → IsFirstWrong text w at → IsFirstWrong text z other → (at ≡ other) × (w ≡ z)
one_wrong text w z at other (ts, o, rest, l, before, p, u) (us, q, left, k, after, r, v) =
    let same : ts ≡ us = (one_scan 0 text ts us o q l k).0 in
    let one = one_first_error IsLexeme IsText us rest left w z (subst (λ (s : List Token). FirstError IsLexeme IsText s rest w) same u) v in
    (p ∙ ap (place (length text)) one.0 ∙ sym r, one.1)

-- a refusal is that of the first fault or of the first wrong token
abbrev Refusal : List ℕ → ReadError → Type 0
Refusal text e = ((x : LexError) × (e ≡ fault_error x) × IsFirstFault text x) ⊎ ((w : Option Which) × (at : ℕ) × (e ≡ error_at at w) × IsFirstWrong text w at)

refusal : (text : List ℕ) (e : ReadError) → (e ≡ error.Memory → ⊥) → ReadsModule text (Err e) → Refusal text e
refusal text (error.BadByte at) n r = inl (fault.BadByte at, refl, r)
refusal text (error.Number at) n r = inl (fault.Number at, refl, r)
refusal text (error.Unexpected at) n r = inr (None, at, refl, r)
refusal text (error.Limit w at) n (inl (is, r)) = inl (fault.LongName at, ap (λ z. error.Limit z at) is, r)
refusal text (error.Limit w at) n (inr r) = inr (Some w, at, refl, r)
refusal text error.Memory n r = absurd (n refl)

same_refusal : (text : List ℕ) (e d : ReadError) → Refusal text e → Refusal text d → e ≡ d
same_refusal text e d (inl (x, a, h)) (inl (y, b, k)) = a ∙ ap fault_error (one_fault text x y h k) ∙ sym b
same_refusal text e d (inl (x, a, h)) (inr (w, at, b, k)) = absurd (not_both text x w at h k)
same_refusal text e d (inr (w, at, a, h)) (inl (y, b, k)) = absurd (not_both text y w at k h)
same_refusal text e d (inr (w, at, a, h)) (inr (z, other, b, k)) =
    let one = one_wrong text w z at other h k in a ∙ ap₂ error_at one.0 one.1 ∙ sym b

pub one_refusal : (text : List ℕ) → OneRefusal text
one_refusal text e d n m h k = same_refusal text e d (refusal text e n h) (refusal text d m k)

-- a refusal that isn't want of memory
abbrev IsNot : ReadError → Type 0
IsNot e = e ≡ error.Memory → ⊥

at_no_memory : (at : ℕ) (w : Option Which) → IsNot (error_at at w)
at_no_memory at None = λ e. cc
at_no_memory at (Some w) = λ e. cc

fault_no_memory : (x : LexError) → IsNoMemory (Some x) → IsNot (fault_error x)
fault_no_memory (fault.BadByte at) h = λ e. cc
fault_no_memory (fault.Number at) h = λ e. cc
fault_no_memory (fault.LongName at) h = λ e. cc
fault_no_memory fault.Memory h = absurd h

first_no_memory : (end : ℕ) (rest : List Token) (w : Option Which) (x : Option LexError) → IsNoMemory x → IsNot (first_error end rest w x)
first_no_memory end [] w None h = at_no_memory end w
first_no_memory end [] w (Some x) h = fault_no_memory x h
first_no_memory end (t ∷ rest) w x h = at_no_memory t.at w

-- an answer by what reading all tokens gives
answered : (text : List ℕ) (ts : List Token) (o : Option LexError) (r : Result modules.Module (List Token × Option Which)) → Lexed 0 text ts o → IsExact IsLexeme IsText ts r → HasAnswer text
answered text ts None (Ok m) l x = inl (m, (ts, l, x.0))
answered text ts (Some e) (Ok m) l x = inr (fault_error e, fault_no_memory e (no_memory 0 text ts (Some e) l), faulty text ts e l (whole_begins ts m x.0))
answered text ts o (Err (rest, w)) l u = inr (first_error (length text) rest w o, first_no_memory (length text) rest w o (no_memory 0 text ts o l), refused_at text ts rest w o l u)

pub an_answer : (text : List ℕ) → HasAnswer text
an_answer text = let (ts, o, l) = a_scan text in answered text ts o (to_end (read Module ts)) l (exact_module ts)
