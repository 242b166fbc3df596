-- Whole module texts.
use Rattle.std.proofs.Common.{◌≡◌, ◌≤◌, ℕ, length, List, [], ◌∷◌, ◌++◌, Option, Some, None, Result, Ok, Err, refl, ap, sym, ◌∙◌, subst, append-nil, inl, inr, arith}
use Rattle.std.proofs.lemmas.List.Elements.{All-nil}
use Rattle.bed_grammar.specs.Grammar.{ref, Derives, unmarked}
use Rattle.bed_grammar.specs.Exact.{Outcome, IsExact, FirstError, to_end, ReturnsUnless}
use Rattle.bed_grammar.proofs.Exactness.{whole_exact}
use Rattle.bed_grammar.proofs.Languages.{exact_restated, reads_text}
use Rattle.bed_grammar.specs.Gives.{RefusesAs}
use Rattle.bed_grammar.specs.declared.refusal.Refusal.{Refusal}
use Rattle.bed_grammar.specs.declared.refusal.Refusal.TheVariants as refusal
use Rattle.bed_lang.specs.declared.module.Module as modules
use Rattle.bed_lex.specs.declared.token.Token.{Token}
use Rattle.bed_lex.specs.declared.token.LexError.{LexError}
use Rattle.bed_lex.specs.declared.token.LexError.TheVariants as fault
use Rattle.bed_lex.specs.Tokens.{Lexed}
use Rattle.bed_lex.proofs.ScanLaws.{one_scan}
use Rattle.bed_lang.specs.declared.limit.Which.{Which}
use Rattle.bed_read.specs.declared.whole.ReadError.{ReadError}
use Rattle.bed_read.specs.declared.whole.ReadError.TheVariants as error
use Rattle.bed_read.specs.Classes.{IsLexeme}
use Rattle.bed_read.specs.Written.{Module}
use Rattle.bed_read.specs.Factored.{factored}
use Rattle.bed_read.specs.Tables.{tables, read}
use Rattle.bed_read.specs.Reading.{IsText, BeginsModule, GivesWhole, ReadsModule, fault_error, first_error}
use Rattle.bed_read.proofs.Certificate.{certified}
use Rattle.bed_read.proofs.Equivalence.{in_written, in_factored}

-- what is left over is refused
pub leftover : (a : Outcome Token Which modules.Module) (m : modules.Module) (rest : List Token) → a ≡ Ok (m, rest) → 1 ≤ length rest → to_end a ≡ Err (rest, None)
leftover a m [] h l = absurd (omega arith)
leftover a m (t ∷ rest) h l = ap to_end h

-- a refusal stays one when all is to be read
pub refused_whole : (e : Refusal Token Which) (a : Outcome Token Which modules.Module) → RefusesAs e a → GivesWhole (Err e) (to_end a)
refused_whole refusal.Memory a h = tt
refused_whole (refusal.At rest w) a h = ap to_end h

-- reading all of a list of tokens is exact for the grammar as it is written
pub exact_module : (s : List Token) → IsExact IsLexeme IsText s (to_end (read Module s))
exact_module s = exact_restated IsLexeme (Derives factored (ref Module)) IsText (in_written Module) (in_factored Module) s _ (whole_exact factored tables certified Module s)

-- tokens that are a module begin one
pub whole_begins : (ts : List Token) (m : modules.Module) → IsText (unmarked ts) m → BeginsModule ts
whole_begins ts m d = ([], All-nil IsLexeme, (m, subst (λ p. IsText p m) (sym (append-nil (unmarked ts))) d))

-- tokens that end too early begin a module
early_begins : (ts : List Token) → FirstError IsLexeme IsText ts [] None → BeginsModule ts
early_begins ts u =
    let e : u.front ≡ ts = sym (u.split ∙ append-nil u.front) in
    (u.completion, u.lexemes, (u.value, subst (λ z. IsText (unmarked z ++ u.completion) u.value) e u.viable))

-- a fault after tokens that begin a module
pub faulty : (text : List ℕ) (ts : List Token) (e : LexError) → Lexed 0 text ts (Some e) → BeginsModule ts → ReadsModule text (Err (fault_error e))
faulty text ts (fault.BadByte at) l b = (ts, l, b)
faulty text ts (fault.Number at) l b = (ts, l, b)
faulty text ts (fault.LongName at) l b = inl (refl, (ts, l, b))
faulty text ts fault.Memory l b = tt

-- a module read to the end
pub whole_read : (text : List ℕ) (ts us : List Token) (e : Option LexError) (m : modules.Module) → Lexed 0 text ts e → us ≡ ts → e ≡ None → to_end (read Module us) ≡ Ok m → ReadsModule text (Ok m)
whole_read text ts us e m l f g h =
    (us, subst (λ z. Lexed 0 text z None) (sym f) (subst (λ z. Lexed 0 text ts z) g l), subst (IsExact IsLexeme IsText us) h (exact_module us))

-- a module, and then a fault
pub whole_faulty : (text : List ℕ) (ts us : List Token) (e : Option LexError) (x : LexError) (m : modules.Module) (r : ReadError) → Lexed 0 text ts e → us ≡ ts → e ≡ Some x → to_end (read Module us) ≡ Ok m
    → r ≡ fault_error x → ReadsModule text (Err r)
whole_faulty text ts us e x m r l f g h k =
    let d = subst (IsExact IsLexeme IsText us) h (exact_module us) in
    subst (λ z. ReadsModule text (Err z)) (sym k) (faulty text us x (subst (λ z. Lexed 0 text z (Some x)) (sym f) (subst (λ z. Lexed 0 text ts z) g l)) (whole_begins us m d.0))

pub refused_at : (text : List ℕ) (ts rest : List Token) (w : Option Which) (e : Option LexError) → Lexed 0 text ts e → FirstError IsLexeme IsText ts rest w → ReadsModule text (Err (first_error (length text) rest w e))
refused_at text ts [] None None l u = (ts, None, [], l, tt, refl, u)
refused_at text ts [] None (Some e) l u = faulty text ts e l (early_begins ts u)
refused_at text ts [] (Some w) e l u = absurd u.at_token
refused_at text ts (t ∷ rest) None e l u = (ts, e, (t ∷ rest), l, tt, refl, u)
refused_at text ts (t ∷ rest) (Some w) e l u = inr (ts, e, (t ∷ rest), l, tt, refl, u)

-- a refusal
pub refused_read : (text : List ℕ) (ts us rest : List Token) (w : Option Which) (e d : Option LexError) (n : ℕ) (r : ReadError) → Lexed 0 text ts e → us ≡ ts → d ≡ e → to_end (read Module us) ≡ Err (rest, w)
    → n ≡ length text → r ≡ first_error n rest w d → ReadsModule text (Err r)
refused_read text ts us rest w e d n r l f g h k p =
    let u = subst (IsExact IsLexeme IsText us) h (exact_module us) in
    let q : r ≡ first_error (length text) rest w e = p ∙ ap (λ z. first_error z rest w d) k ∙ ap (λ z. first_error (length text) rest w z) g in
    subst (λ z. ReadsModule text (Err z)) (sym q) (refused_at text us rest w e (subst (λ z. Lexed 0 text z e) (sym f) l) u)

no_fault : {A : Type 0} (text : List ℕ) (ts us : List Token) (e : LexError) → Lexed 0 text us None → Lexed 0 text ts (Some e) → A
no_fault text ts us e k l = let f = (one_scan 0 text ts us (Some e) None l k).1 in cc

not_wrong : {A : Type 0} (text : List ℕ) (m : modules.Module) (us ts rest : List Token) (w : Option Which) (e : Option LexError) → Lexed 0 text us None → IsText (unmarked us) m
    → Lexed 0 text ts e → FirstError IsLexeme IsText ts rest w → A
not_wrong text m us ts rest w e k d l u =
    let f : ts ≡ us = (one_scan 0 text ts us e None l k).0 in
    let g = reads_text IsLexeme IsText ts (Err (rest, w)) u m (subst (λ z. IsText (unmarked z) m) (sym f) d) in
    let z : ⊥ = cc in
    absurd z

-- a text that has a module is read as it
pub complete : (text : List ℕ) (m : modules.Module) (us : List Token) → Lexed 0 text us None → IsText (unmarked us) m → (result : Result modules.Module ReadError) → ReadsModule text result → ReturnsUnless error.Memory m result
complete text m us k d (Ok x) (ts, l, u) =
    let f : ts ≡ us = (one_scan 0 text ts us None None l k).0 in
    let g = reads_text IsLexeme IsText ts (Ok x) u m (subst (λ z. IsText (unmarked z) m) (sym f) d) in
    cc
complete text m us k d (Err (error.BadByte at)) (ts, l, b) = no_fault text ts us (fault.BadByte at) k l
complete text m us k d (Err (error.Number at)) (ts, l, b) = no_fault text ts us (fault.Number at) k l
complete text m us k d (Err (error.Unexpected at)) (ts, e, rest, l, b, p, u) = not_wrong text m us ts rest None e k d l u
complete text m us k d (Err (error.Limit w at)) (inl (n, (ts, l, b))) = no_fault text ts us (fault.LongName at) k l
complete text m us k d (Err (error.Limit w at)) (inr (ts, e, rest, l, b, p, u)) = not_wrong text m us ts rest (Some w) e k d l u
complete text m us k d (Err error.Memory) r = refl
