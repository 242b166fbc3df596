-- A printed module reads back.
use Rattle.std.proofs.Common.{◌≡◌, ℕ, Bool, true, IsTrue, List, [], ◌∷◌, ◌++◌, map, None, Result, Ok, Err, OnOk, inl, inr, refl, sym, ap, ◌∙◌, subst}
use Rattle.bed_grammar.specs.Grammar.{Rhs, token, empty, seq, alt, ref, Value, Marked, Derives, Spells, unmarked}
use Rattle.bed_grammar.proofs.Derivations as derivations
use Rattle.bed_lang.specs.declared.module.Module.{Module}
use Rattle.bed_lang.specs.declared.limit.Which.{Which}
use Rattle.bed_lex.specs.declared.token.Token.{Token}
use Rattle.bed_lex.specs.declared.token.Kind.{Kind}
use Rattle.bed_lex.specs.declared.token.Kind.TheVariants as kind
use Rattle.bed_lang.specs.Declarations.{declarations}
use Rattle.bed_names.specs.Faults.{refusal}
use Rattle.bed_names.specs.Modules.{faults}
use Rattle.bed_names.specs.Resolved.{resolved}
use Rattle.bed_names.proofs.RuleLaws.{faults_are_refused}
use Rattle.bed_read.specs.Reading.{IsModule}
use Rattle.bed_read.specs.Written as grammar
use Rattle.bed_read.specs.Written.{N, Tree, written, written_rule, written_action}
use Rattle.bed_print.specs.Kinds.{module_kinds}
use Rattle.bed_print.proofs.Places.{bare_kind, bare_module}
use Rattle.bed_print.specs.Layout.{text_of}
use Rattle.bed_print.specs.Printing.{IsTextOf, ReadsBack, ScopesTo, ScopesBack}
use Rattle.bed_print.proofs.Lexing.{bare_kinds, lexes}
use Rattle.bed_print.proofs.Nonterminals.{bare, placed, bare_value}
use Rattle.bed_print.proofs.Clean.{AreLexemes, Prints}
use Rattle.bed_print.proofs.Replacing.{bare_action, bare_text, replaced}
use Rattle.bed_print.proofs.Productions.{module_printed}
use Rattle.bed_print.proofs.Lexemes.{lexemes}
use Rattle.bed_print.proofs.Sameness.{modules}
use Rattle.bed_print.proofs.Worded.{worded}
use Rattle.bed_print.proofs.WordedKinds.{module_same}
use Rattle.bed_print.proofs.Bracketing.{HasText, worded_has_text}
use Rattle.bed_print.proofs.PlaceLemmas.{same_faults, same_resolved}
use Rattle.bed_print.proofs.WordedItems.{faults_worded}
use Rattle.bed_print.proofs.WordedResolved.{resolved_worded}

-- ---- setting places to 0 twice is setting them once

bare_kind-twice : (k : Kind) → bare_kind (bare_kind k) ≡ bare_kind k
bare_kind-twice (kind.Name x) = refl
bare_kind-twice (kind.Number n) = refl
bare_kind-twice (kind.Word w) = refl
bare_kind-twice (kind.Fresh n) = refl

abbrev IsBareOnce : (n : N) → Marked Token Which → Tree n → Type 0
IsBareOnce n p v = bare n (bare n v) ≡ bare n v

bare_value-twice : (g : Rhs N Which) (p : Marked Token Which) (v : Value Token Tree g) → Spells written IsBareOnce g p v
    → bare_value g (bare_value g v) ≡ bare_value g v
bare_value-twice (token c m) p v s = ap at_zero (bare_kind-twice v.kind)
  where
    at_zero : Kind → Token
    at_zero k = record { kind = k; at = 0 }
bare_value-twice empty p v s = refl
bare_value-twice (seq a b) p v s =
    let (p1, p2, e, s1, s2) = s in
    ap (λ z. (z, bare_value b (bare_value b v.1))) (bare_value-twice a p1 v.0 s1) ∙ ap (λ z. (bare_value a v.0, z)) (bare_value-twice b p2 v.1 s2)
bare_value-twice (alt a b) p (inl x) s = ap (λ z. inl z) (bare_value-twice a p x s)
bare_value-twice (alt a b) p (inr x) s = ap (λ z. inr z) (bare_value-twice b p x s)
bare_value-twice (ref n) p v s = s

bare_once : (n : N) (p : Marked Token Which) (v : Value Token Tree (written_rule n)) → Spells written IsBareOnce (written_rule n) p v
    → IsBareOnce n p (written_action n v)
bare_once n p v s =
    ap (bare n) (bare_action n v) ∙ bare_action n (bare_value (written_rule n) v)
    ∙ ap (written_action n) (bare_value-twice (written_rule n) p v s) ∙ sym (bare_action n v)

bare_module-twice : (p : Marked Token Which) (m : Module) → Derives written (ref grammar.Module) p m → bare_module (bare_module m) ≡ bare_module m
bare_module-twice p m d = derivations.induction written IsBareOnce bare_once (ref grammar.Module) p m d

-- ---- texts

-- tokens of these kinds are those at place 0, places aside
same_text : (us : List Token) (ks : List Kind) → bare_kinds us ≡ map bare_kind ks
    → ◌≡◌ {A = Marked Token Which} (bare_text (unmarked us)) (bare_text (unmarked (map placed ks)))
same_text [] [] e = refl
same_text [] (k ∷ ks) e = absurd (cc)
same_text (u ∷ us) [] e = absurd (cc)
same_text (u ∷ us) (k ∷ ks) e =
    let head : bare_kind u.kind ≡ bare_kind k = cc in
    let rest : bare_kinds us ≡ map bare_kind ks = cc in
    ap (λ z. (at_zero z, None) ∷ bare_text (unmarked us)) (head ∙ sym (bare_kind-twice k))
    ∙ ap (λ z. (at_zero (bare_kind (bare_kind k)), None) ∷ z) (same_text us ks rest)
  where
    at_zero : Kind → Token
    at_zero k = record { kind = k; at = 0 }

is_true : {b : Bool} → b ≡ true → IsTrue b
is_true e = e

-- the printed text of a module that tokens are within the limits has that module, places aside
read_again : (ts : List Token) (m : Module) → AreLexemes ts → Derives written (ref grammar.Module) (unmarked ts) m
    → (back : Module) × IsModule (text_of (module_kinds m)) back × (bare_module back ≡ bare_module m)
read_again ts m known derived =
    let printed : Prints (ref grammar.Module) (module_kinds m) (bare_module m) = module_printed ts m known derived in
    let (us, l, e) = lexes (module_kinds m) printed.kinds in
    let (back, d, same) = replaced (ref grammar.Module) (unmarked (map placed (module_kinds m))) (bare_module m) printed.text (unmarked us) (same_text us (module_kinds m) e) in
    (back, (us, l, d), same ∙ bare_module-twice (unmarked ts) m derived)

-- the printed text of a module that some text has
pub reads_back : (source : List ℕ) (m : Module) → IsModule source m → IsTextOf (text_of (module_kinds m)) m
reads_back source m (ts, lexed, derived) =
    let (back, is, same) = read_again ts m (lexemes source ts lexed) derived in
    (back, (is, is_true (modules back m same)))

pub appended_reads_back : {E : Type 0} (m : Module) (old new : List ℕ) (r : Result (Unit {0}) E) → OnOk r (new ≡ old ++ text_of (module_kinds m)) → OnOk r (ReadsBack m old new)
appended_reads_back m old new (Ok x) e = λ source has. (text_of (module_kinds m), (e, reads_back source m has))
appended_reads_back m old new (Err x) e = tt

-- ---- scoped modules

-- the printed text of what scoping makes of a module that some text has: that of the worded module
scopes_back : (source : List ℕ) (m : Module) → IsModule source m → refusal (faults m) ≡ None → ScopesTo (text_of (module_kinds (resolved m))) (resolved m)
scopes_back source m (ts, lexed, derived) keeps =
    let text : HasText (ref grammar.Module) (worded m) = worded_has_text ts m (lexemes source ts lexed) derived (declarations m) in
    let (back, is, same) = read_again text.tokens (worded m) text.lexemes text.text in
    let none : faults back ≡ [] = same_faults (worded m) back (sym same) (faults_worded m ∙ faults_are_refused (faults m) keeps) in
    let alike : bare_module (resolved back) ≡ bare_module (resolved m) = same_resolved back (worded m) same ∙ ap bare_module (resolved_worded m) in (
      back,
      subst (λ ks. IsModule (text_of ks) back) (module_same (declarations m) m) is,
      ap refusal none,
      is_true (modules (resolved back) (resolved m) alike),
    )

pub appended_scopes_back : {E : Type 0} (m : Module) (old new : List ℕ) (r : Result (Unit {0}) E) → OnOk r (new ≡ old ++ text_of (module_kinds m)) → OnOk r (ScopesBack m old new)
appended_scopes_back m old new (Ok x) e = λ source before has keeps is. (
  text_of (module_kinds m),
  (e, subst (λ z. ScopesTo (text_of (module_kinds z)) z) (sym is) (scopes_back source before has keeps)),
)
appended_scopes_back m old new (Err x) e = tt
