-- Where a text has a module, tokens with brackets round names that stand for words are the worded module.
use Rattle.std.proofs.Common.{◌≡◌, ℕ, ◌-◌, ◌<◌, Bool, true, false, ◌&&◌, if◌then◌else◌, List, [], ◌∷◌, ◌++◌, map, Option, None, inl, inr, refl, sym, ◌∙◌, subst, arith}
use Rattle.std.proofs.lemmas.Bool.{and_parts}
use Rattle.bed_grammar.specs.Grammar.{Rhs, token, empty, seq, alt, ref, Value, Derives, shift, epsilon, sequence, left, right, expand, unmarked}
use Rattle.bed_grammar.proofs.Derivations as derivations
use Rattle.bed_grammar.proofs.Sets.{tokens_of-unmarked, unmarked-append, unmarked-is}
use Rattle.bed_lang.specs.declared.word.Name.{Name}
use Rattle.bed_lang.specs.declared.word.Sort.{Sort}
use Rattle.bed_lang.specs.declared.word.Sort.TheVariants as sort
use Rattle.bed_lang.specs.declared.word.Word as word
use Rattle.bed_lang.specs.declared.word.Var.TheVariants as var
use Rattle.bed_lang.specs.declared.logic.Arg.TheVariants as arg
use Rattle.bed_lang.specs.declared.logic.Bind.{Bind}
use Rattle.bed_lang.specs.declared.condition.Decls.{Decls}
use Rattle.bed_lang.specs.declared.module.Module.{Module}
use Rattle.bed_lang.specs.declared.module.Signature.{Signature}
use Rattle.bed_lang.specs.declared.module.Function.{Function}
use Rattle.bed_lang.specs.declared.limit.Which.{Which}
use Rattle.bed_lang.specs.declared.limit.Which.TheVariants as limit
use Rattle.bed_lex.specs.declared.token.Token.{Token}
use Rattle.bed_lex.specs.declared.token.Kind.TheVariants as kind
use Rattle.bed_lang.specs.Lookups.{signature_named, predicate_named}
use Rattle.bed_names.specs.Names.{sequences}
use Rattle.bed_names.specs.Terms.{Visible, with_names, is_hole, asked_by, first_sort, behind_first}
use Rattle.bed_names.specs.Modules.{plain, signature_names, function_visible}
use Rattle.bed_names.specs.Resolved.{bare_sort}
use Rattle.bed_read.specs.declared.parts.Piece.{Piece}
use Rattle.bed_read.specs.declared.parts.Piece.TheVariants as piece
use Rattle.bed_read.specs.declared.parts.Source as sources
use Rattle.bed_read.specs.declared.parts.Source.TheVariants as source
use Rattle.bed_read.specs.declared.parts.Call as calls
use Rattle.bed_read.specs.declared.parts.Over as overs
use Rattle.bed_read.specs.Classes.{class, is_name, IsLexeme, LEFT_PAREN, RIGHT_PAREN}
use Rattle.bed_read.specs.Trees.{assigned, joined, summed}
use Rattle.bed_read.specs.Written as grammar
use Rattle.bed_read.specs.Written.{N, Tree, written, written_rule, written_action, past}
use Rattle.bed_print.specs.Kinds.{fixed}
use Rattle.bed_print.proofs.Clean.{AreLexemes, Clean, Says, clean}
use Rattle.bed_print.proofs.Pieces.{not_past}
use Rattle.bed_print.proofs.Productions.{no, name_is}
use Rattle.bed_print.proofs.Worded.{bracketed, worded_arg, worded_args, worded_term, worded_assertion, worded_hint, worded_join, worded_keep, worded_kind, worded_stmt, worded_signature, worded_predicate, worded_function, worded_with}
use Rattle.bed_print.proofs.WordedTrees.{worded-of, worded-Assign, worded-Compute, worded-Load, worded-LoadByte, worded-Store, worded-StoreByte, worded-Call, worded-If, worded-While, worded-Return, worded-Hint, worded-Find, worded-Walk}

-- ---- trees of the grammar's parts

abbrev worded_call : Visible → calls.Call → calls.Call
worded_call s c = record c { hints = map (worded_hint s) c.hints; after = worded_assertion s c.after }

abbrev worded_source : Visible → sources.Source → sources.Source
worded_source s (source.Operand a) = source.Operand a
worded_source s (source.Compute o a b) = source.Compute o a b
worded_source s (source.Load p) = source.Load p
worded_source s (source.LoadByte p) = source.LoadByte p
worded_source s (source.Call c) = source.Call (worded_call s c)

abbrev worded_over : Visible → overs.Over → overs.Over
worded_over s o = record o { keep = worded_keep s o.seen o.rest o.keep }

-- the second tree is the first one worded, whatever is in scope; brackets want one level of nesting that is left
abbrev Worded : (n : N) → Tree n → Tree n → Type 0
Worded grammar.Module v w = (d : Decls) × (w ≡ worded_with d v)
Worded grammar.Signatures v w = (d : Decls) × (w ≡ map (worded_signature d) v)
Worded grammar.Signature v w = (d : Decls) × (w ≡ worded_signature d v)
Worded grammar.Predicates v w = (d : Decls) × (w ≡ map (worded_predicate d) v)
Worded grammar.Predicate v w = (d : Decls) × (w ≡ worded_predicate d v)
Worded (grammar.Cases k) v w = (s : Visible) × (w ≡ map (worded_assertion s) v)
Worded grammar.Functions v w = (d : Decls) × (w ≡ map (worded_function d) v)
Worded grammar.Function v w = (d : Decls) × (w ≡ worded_function d v)
Worded (grammar.Body n) v w = (s : Visible) × (w ≡ (map (worded_stmt s) v.0, v.1))
Worded (grammar.Statements n) v w = (s : Visible) × (w ≡ map (worded_stmt s) v)
Worded (grammar.Assertion m) v w = (s : Visible) × (w ≡ worded_assertion s v)
Worded (grammar.Terms k) v w = (s : Visible) × (w ≡ map (worded_term s) v)
Worded (grammar.Term m) v w = (s : Visible) × (w ≡ (v.0, worded_term s v.1))
Worded (grammar.PureTerm m) v w = (s : Visible) × (w ≡ (v.0, worded_term s v.1))
Worded (grammar.Block m) v w = (s : Visible) × (w ≡ (v.0, worded_term s v.1))
Worded (grammar.Arg n) v w = (0 < n) × ((s : Visible) × ((a : Option Sort) × (w ≡ worded_arg s a v)))
Worded (grammar.Args n) v w = (0 < n) × ((s : Visible) × ((ps : List Bind) × (w ≡ worded_args s ps v)))
Worded (grammar.MoreArgs n) v w = (0 < n) × ((s : Visible) × ((ps : List Bind) × (w ≡ worded_args s ps v)))
Worded (grammar.HoleArg n) v w = (0 < n) × ((s : Visible) × ((a : Option Sort) × (w ≡ worded_arg s a v)))
Worded (grammar.HoleArgs n) v w = (0 < n) × ((s : Visible) × ((ps : List Bind) × (w ≡ worded_args s ps v)))
Worded (grammar.MoreHoleArgs n) v w = (0 < n) × ((s : Visible) × ((ps : List Bind) × (w ≡ worded_args s ps v)))
Worded (grammar.Statement n) v w = (s : Visible) × (w ≡ worded_stmt s v)
Worded grammar.Assignment v w = (s : Visible) × (w ≡ worded_stmt s v)
Worded grammar.Store v w = (s : Visible) × (w ≡ worded_stmt s v)
Worded grammar.StoreByte v w = (s : Visible) × (w ≡ worded_stmt s v)
Worded (grammar.If n) v w = (s : Visible) × (w ≡ worded_stmt s v)
Worded (grammar.Else n) v w = (s : Visible) × (w ≡ map (worded_stmt s) v)
Worded grammar.Join v w = (s : Visible) × (w ≡ worded_join s v)
Worded (grammar.While n) v w = (s : Visible) × (w ≡ worded_stmt s v)
Worded grammar.Return v w = (s : Visible) × (w ≡ worded_stmt s v)
Worded grammar.HintStatement v w = (s : Visible) × (w ≡ worded_stmt s v)
Worded (grammar.Find n) v w = (s : Visible) × (w ≡ worded_stmt s v)
Worded (grammar.Walk n) v w = (s : Visible) × (w ≡ worded_stmt s v)
Worded grammar.Over v w = (s : Visible) × (w ≡ worded_over s v)
Worded grammar.Source v w = (s : Visible) × (w ≡ worded_source s v)
Worded grammar.Call v w = (s : Visible) × (w ≡ worded_call s v)
Worded grammar.Using v w = (s : Visible) × (w ≡ map (worded_hint s) v)
Worded grammar.Hints v w = (s : Visible) × (w ≡ map (worded_hint s) v)
Worded grammar.Hint v w = (s : Visible) × (w ≡ worded_hint s v)
Worded grammar.PredicateHint v w = (s : Visible) × (w ≡ worded_hint s v)
Worded grammar.BlockHint v w = (s : Visible) × (w ≡ worded_hint s v)
Worded grammar.CellHint v w = (s : Visible) × (w ≡ worded_hint s v)
Worded grammar.FactHint v w = (s : Visible) × (w ≡ worded_hint s v)
Worded (grammar.NameTerm m) v w = ⊥
Worded (grammar.StartTerm m) v w = ⊥
Worded n v w = w ≡ v

-- values of a right side, part by part
abbrev WordedIn : (g : Rhs N Which) → Value Token Tree g → Value Token Tree g → Type 0
WordedIn (token c m) v w = w ≡ v
WordedIn empty v w = Unit {0}
WordedIn (seq a b) v w = WordedIn a v.0 w.0 × WordedIn b v.1 w.1
WordedIn (alt a b) (inl x) (inl y) = WordedIn a x y
WordedIn (alt a b) (inr x) (inr y) = WordedIn b x y
WordedIn (alt a b) (inl x) (inr y) = ⊥
WordedIn (alt a b) (inr x) (inl y) = ⊥
WordedIn (ref n) v w = Worded n v w

-- ---- texts

-- some tokens within the limits are a text of a right side with this value
pub record HasText (g : Rhs N Which) (v : Value Token Tree g) : Type 0 where
  pub tokens : List Token
  pub lexemes : AreLexemes tokens
  pub text : Derives written g (unmarked tokens) v

lexemes-join : (ts us : List Token) → AreLexemes ts → AreLexemes us → AreLexemes (ts ++ us)
lexemes-join [] us h k = k
lexemes-join (t ∷ ts) us h k = (h.0, lexemes-join ts us h.1 k)

token_text : (c : ℕ) (m : Option Which) (t : Token) → m ≡ None → class t ≡ c → IsLexeme t → HasText (token c m) t
token_text c m t e f is = record {
  tokens = t ∷ [];
  lexemes = (is, tt);
  text = subst (λ z. Derives written (token c z) ((t, None) ∷ []) t) (sym e) (shift c None t f);
}

seq_text : (a b : Rhs N Which) (x : Value Token Tree a) (y : Value Token Tree b) → HasText a x → HasText b y → HasText (seq a b) (x, y)
seq_text a b x y p q = record {
  tokens = p.tokens ++ q.tokens;
  lexemes = lexemes-join p.tokens q.tokens p.lexemes q.lexemes;
  text = subst (λ z. Derives written (seq a b) z (x, y)) (sym (unmarked-append p.tokens q.tokens))
      (sequence a b (unmarked p.tokens) (unmarked q.tokens) x y p.text q.text);
}

left_text : (a b : Rhs N Which) (x : Value Token Tree a) → HasText a x → HasText (alt a b) (inl x)
left_text a b x p = record { tokens = p.tokens; lexemes = p.lexemes; text = left a b (unmarked p.tokens) x p.text }

right_text : (a b : Rhs N Which) (x : Value Token Tree b) → HasText b x → HasText (alt a b) (inr x)
right_text a b x p = record { tokens = p.tokens; lexemes = p.lexemes; text = right a b (unmarked p.tokens) x p.text }

rule_text : (n : N) (v : Value Token Tree (written_rule n)) → HasText (written_rule n) v → HasText (ref n) (written_action n v)
rule_text n v p = record { tokens = p.tokens; lexemes = p.lexemes; text = expand n (unmarked p.tokens) v p.text }

-- ---- what is known of the tree of each nonterminal that a text has within the limits

abbrev NameOf : Piece → Type 0
NameOf (piece.Name x) = is_name x.bytes ≡ true
NameOf (piece.Word at w) = Unit {0}

-- a name is a name of the language
abbrev Fact : (n : N) → Tree n → Type 0
Fact (grammar.Nam m) v = is_name v.bytes ≡ true
Fact (grammar.Part m n) v = NameOf v
Fact (grammar.Sum m n) v = NameOf v
Fact n v = Unit {0}

-- each tree that is it worded has a text
abbrev Known : (n : N) → Tree n → Type 0
Known n v = ((w : Tree n) → Worded n v w → HasText (ref n) w) × Fact n v

worded_value : (g : Rhs N Which) (v w : Value Token Tree g) → Clean Known g v → WordedIn g v w → HasText g w
worded_value (token c m) v w k e = subst (HasText (token c m)) (sym e) (token_text c m v k.0 k.1 k.2)
worded_value empty v w k e = record { tokens = []; lexemes = tt; text = epsilon }
worded_value (seq a b) v w k e = seq_text a b w.0 w.1 (worded_value a v.0 w.0 k.0 e.0) (worded_value b v.1 w.1 k.1 e.1)
worded_value (alt a b) (inl x) (inl y) k e = left_text a b y (worded_value a x y k e)
worded_value (alt a b) (inr x) (inr y) k e = right_text a b y (worded_value b x y k e)
worded_value (alt a b) (inl x) (inr y) k e = absurd e
worded_value (alt a b) (inr x) (inl y) k e = absurd e
worded_value (ref n) v w k e = k.0 w e

-- ---- productions with nothing to word

abbrev is_steady : N → Bool
is_steady grammar.Module = false
is_steady grammar.Signatures = false
is_steady grammar.Signature = false
is_steady grammar.Predicates = false
is_steady grammar.Predicate = false
is_steady (grammar.Cases k) = false
is_steady grammar.Functions = false
is_steady grammar.Function = false
is_steady (grammar.Body n) = false
is_steady (grammar.Statements n) = false
is_steady (grammar.Assertion m) = false
is_steady (grammar.Terms k) = false
is_steady (grammar.Term m) = false
is_steady (grammar.PureTerm m) = false
is_steady (grammar.Block m) = false
is_steady (grammar.Arg n) = false
is_steady (grammar.Args n) = false
is_steady (grammar.MoreArgs n) = false
is_steady (grammar.HoleArg n) = false
is_steady (grammar.HoleArgs n) = false
is_steady (grammar.MoreHoleArgs n) = false
is_steady (grammar.Statement n) = false
is_steady grammar.Assignment = false
is_steady grammar.Store = false
is_steady grammar.StoreByte = false
is_steady (grammar.If n) = false
is_steady (grammar.Else n) = false
is_steady grammar.Join = false
is_steady (grammar.While n) = false
is_steady grammar.Return = false
is_steady grammar.HintStatement = false
is_steady (grammar.Find n) = false
is_steady (grammar.Walk n) = false
is_steady grammar.Over = false
is_steady grammar.Source = false
is_steady grammar.Call = false
is_steady grammar.Using = false
is_steady grammar.Hints = false
is_steady grammar.Hint = false
is_steady grammar.PredicateHint = false
is_steady grammar.BlockHint = false
is_steady grammar.CellHint = false
is_steady grammar.FactHint = false
is_steady (grammar.NameTerm m) = false
is_steady (grammar.StartTerm m) = false
is_steady n = true

steady : (n : N) → is_steady n ≡ true → (v : Tree n) → Worded n v v
steady grammar.Module is v = no is
steady grammar.Signatures is v = no is
steady grammar.Signature is v = no is
steady grammar.Predicates is v = no is
steady grammar.Predicate is v = no is
steady (grammar.Cases k) is v = no is
steady grammar.Functions is v = no is
steady grammar.Function is v = no is
steady (grammar.Body n) is v = no is
steady (grammar.Statements n) is v = no is
steady (grammar.Assertion m) is v = no is
steady (grammar.Terms k) is v = no is
steady (grammar.Term m) is v = no is
steady (grammar.PureTerm m) is v = no is
steady (grammar.Block m) is v = no is
steady (grammar.Arg n) is v = no is
steady (grammar.Args n) is v = no is
steady (grammar.MoreArgs n) is v = no is
steady (grammar.HoleArg n) is v = no is
steady (grammar.HoleArgs n) is v = no is
steady (grammar.MoreHoleArgs n) is v = no is
steady (grammar.Statement n) is v = no is
steady grammar.Assignment is v = no is
steady grammar.Store is v = no is
steady grammar.StoreByte is v = no is
steady (grammar.If n) is v = no is
steady (grammar.Else n) is v = no is
steady grammar.Join is v = no is
steady (grammar.While n) is v = no is
steady grammar.Return is v = no is
steady grammar.HintStatement is v = no is
steady (grammar.Find n) is v = no is
steady (grammar.Walk n) is v = no is
steady grammar.Over is v = no is
steady grammar.Source is v = no is
steady grammar.Call is v = no is
steady grammar.Using is v = no is
steady grammar.Hints is v = no is
steady grammar.Hint is v = no is
steady grammar.PredicateHint is v = no is
steady grammar.BlockHint is v = no is
steady grammar.CellHint is v = no is
steady grammar.FactHint is v = no is
steady (grammar.NameTerm m) is v = no is
steady (grammar.StartTerm m) is v = no is
steady n is v = refl

-- whether all nonterminals of a right side are, as far as the value chooses them
abbrev stays : (g : Rhs N Which) → Value Token Tree g → Bool
stays (token c m) v = true
stays empty v = true
stays (seq a b) v = stays a v.0 && stays b v.1
stays (alt a b) (inl x) = stays a x
stays (alt a b) (inr x) = stays b x
stays (ref n) v = is_steady n

steady_value : (g : Rhs N Which) (v : Value Token Tree g) → stays g v ≡ true → WordedIn g v v
steady_value (token c m) v is = refl
steady_value empty v is = tt
steady_value (seq a b) v is =
    let both : (stays a v.0 ≡ true) × (stays b v.1 ≡ true) = and_parts (stays a v.0) (stays b v.1) is in
    (steady_value a v.0 both.0, steady_value b v.1 both.1)
steady_value (alt a b) (inl x) is = steady_value a x is
steady_value (alt a b) (inr x) is = steady_value b x is
steady_value (ref n) v is = steady n is v

-- ---- productions whose parts are worded

-- a worded tree is that of a worded value
abbrev Steps : (n : N) → Value Token Tree (written_rule n) → Tree n → Type 0
Steps n v w = (u : Value Token Tree (written_rule n)) × WordedIn (written_rule n) v u × (w ≡ written_action n u)

abbrev is_argument : N → Bool
is_argument (grammar.Arg n) = true
is_argument _ = false

worded_assigned : (s : Visible) (x : Name) (c : sources.Source) → worded_kind s (assigned x c) ≡ assigned x (worded_source s c)
worded_assigned s x (source.Operand a) = worded-Assign s x a
worded_assigned s x (source.Compute o a b) = worded-Compute s x o a b
worded_assigned s x (source.Load p) = worded-Load s x p
worded_assigned s x (source.LoadByte p) = worded-LoadByte s x p
worded_assigned s x (source.Call c) = worded-Call s c.place x c.target c.via c.args c.hints c.after

step : (n : N) → is_argument n ≡ false → (v : Value Token Tree (written_rule n)) (w : Tree n) → Worded n (written_action n v) w → Steps n v w
step grammar.Module not v w (d, e) = (
  (v.0, (v.1.0, (v.1.1.0, (map (worded_signature d) v.1.1.1.0, (map (worded_predicate d) v.1.1.1.1.0, (v.1.1.1.1.1.0, map (worded_function d) v.1.1.1.1.1.1)))))),
  (refl, (refl, (refl, ((d, refl), ((d, refl), (refl, (d, refl))))))),
  e,
)
step grammar.Signatures not (inl v) w (d, e) = (inl (worded_signature d v.0, map (worded_signature d) v.1), ((d, refl), (d, refl)), e)
step grammar.Signatures not (inr v) w (d, e) = (inr v, tt, e)
step grammar.Signature not v w (d, e) =
    let s : Signature = written_action grammar.Signature v in
    let before : Visible = plain d (signature_names s) false in
    let after : Visible = plain d (signature_names s) true in (
      (
        v.0,
        (
          v.1.0,
          (
            v.1.1.0,
            (
              v.1.1.1.0,
              (
                v.1.1.1.1.0,
                (
                  v.1.1.1.1.1.0,
                  (
                    v.1.1.1.1.1.1.0,
                    (
                      v.1.1.1.1.1.1.1.0,
                      (worded_assertion before s.pre, (v.1.1.1.1.1.1.1.1.1.0, (worded_assertion after s.post, v.1.1.1.1.1.1.1.1.1.1.1))),
                    ),
                  ),
                ),
              ),
            ),
          ),
        ),
      ),
      (refl, (refl, (refl, (refl, (refl, (refl, (refl, (refl, ((before, refl), (refl, ((after, refl), refl))))))))))),
      e,
    )
step grammar.Predicates not (inl v) w (d, e) = (inl (worded_predicate d v.0, map (worded_predicate d) v.1), ((d, refl), (d, refl)), e)
step grammar.Predicates not (inr v) w (d, e) = (inr v, tt, e)
step grammar.Predicate not v w (d, e) =
    let s : Visible = plain d v.1.1.1.0 false in (
      (
        v.0,
        (
          v.1.0,
          (
            v.1.1.0,
            (
              v.1.1.1.0,
              (
                v.1.1.1.1.0,
                (
                  v.1.1.1.1.1.0,
                  (
                    worded_assertion s v.1.1.1.1.1.1.0,
                    (map (worded_assertion s) v.1.1.1.1.1.1.1.0, v.1.1.1.1.1.1.1.1),
                  ),
                ),
              ),
            ),
          ),
        ),
      ),
      (refl, (refl, (refl, (refl, (refl, (refl, ((s, refl), ((s, refl), refl)))))))),
      e,
    )
step (grammar.Cases k) not (inl v) w (s, e) = (inl (v.0, (worded_assertion s v.1.0, map (worded_assertion s) v.1.1)), (refl, ((s, refl), (s, refl))), e)
step (grammar.Cases k) not (inr v) w (s, e) = (inr v, tt, e)
step grammar.Functions not (inl v) w (d, e) = (inl (worded_function d v.0, map (worded_function d) v.1), ((d, refl), (d, refl)), e)
step grammar.Functions not (inr v) w (d, e) = (inr v, tt, e)
step grammar.Function not v w (d, e) =
    let f : Function = written_action grammar.Function v in
    let s : Visible = function_visible d (signature_named d f.signature.bytes) f in (
      (v.0, (v.1.0, (v.1.1.0, (v.1.1.1.0, (v.1.1.1.1.0, (v.1.1.1.1.1.0, (map (worded_stmt s) v.1.1.1.1.1.1.0, v.1.1.1.1.1.1.1))))))),
      (refl, (refl, (refl, (refl, (refl, (refl, (s, refl))))))),
      e,
    )
step (grammar.Body n) not v w (s, e) = ((v.0, (map (worded_stmt s) v.1.0, v.1.1)), (refl, ((s, refl), refl)), e)
step (grammar.Statements n) not (inl v) w (s, e) = (inl (worded_stmt s v.0, map (worded_stmt s) v.1), ((s, refl), (s, refl)), e)
step (grammar.Statements n) not (inr v) w (s, e) = (inr v, tt, e)
step (grammar.Assertion m) not (inl v) w (s, e) =
    let t : Visible = with_names s v.1.0 in (
      inl (v.0, (v.1.0, (v.1.1.0, ((v.1.1.1.0.0, worded_term t v.1.1.1.0.1), map (worded_term t) v.1.1.1.1)))),
      (refl, (refl, (refl, ((t, refl), (t, refl))))),
      e,
    )
step (grammar.Assertion m) not (inr v) w (s, e) =
    let t : Visible = with_names s [] in
    (inr ((v.0.0, worded_term t v.0.1), map (worded_term t) v.1), ((t, refl), (t, refl)), e)
step (grammar.Terms k) not (inl v) w (s, e) = (inl (v.0, ((v.1.0.0, worded_term s v.1.0.1), map (worded_term s) v.1.1)), (refl, ((s, refl), (s, refl))), e)
step (grammar.Terms k) not (inr v) w (s, e) = (inr v, tt, e)
step (grammar.Term m) not (inl v) w (s, e) = (inl v, refl, e)
step (grammar.Term m) not (inr (inl v)) w (s, e) = (inr (inl (v.0, worded_term s v.1)), (s, refl), e)
step (grammar.Term m) not (inr (inr (inl v))) w (s, e) = (inr (inr (inl (v.0, worded_term s v.1))), (s, refl), e)
step (grammar.Term m) not (inr (inr (inr (inl v)))) w (s, e) =
    let ps : List Bind = asked_by (predicate_named s.decls v.0.bytes) v.1.1.0 in (
      inr (inr (inr (inl (v.0, (v.1.0, (worded_args s ps v.1.1.0, v.1.1.1)))))),
      (refl, (refl, ((omega arith, (s, (ps, refl))), refl))),
      e,
    )
step (grammar.Term m) not (inr (inr (inr (inr (inl v))))) w (s, e) = (inr (inr (inr (inr (inl v)))), (refl, (refl, refl)), e)
step (grammar.Term m) not (inr (inr (inr (inr (inr v))))) w (s, e) = (inr (inr (inr (inr (inr v)))), (refl, (refl, refl)), e)
step (grammar.PureTerm m) not v w (s, e) = (v, (refl, (refl, refl)), e)
step (grammar.Block m) not v w (s, e) = (v, (refl, (refl, (refl, (refl, (refl, refl))))), e)
step (grammar.Arg n) not v w k = no (sym not)
step (grammar.Args n) not (inl v) w (h, (s, (ps, e))) = (
  inl (worded_arg s (first_sort ps) v.0, worded_args s (behind_first ps) v.1),
  ((h, (s, (first_sort ps, refl))), (h, (s, (behind_first ps, refl)))),
  e,
)
step (grammar.Args n) not (inr v) w (h, (s, (ps, e))) = (inr v, tt, e)
step (grammar.MoreArgs n) not (inl v) w (h, (s, (ps, e))) = (
  inl (v.0, (worded_arg s (first_sort ps) v.1.0, worded_args s (behind_first ps) v.1.1)),
  (refl, ((h, (s, (first_sort ps, refl))), (h, (s, (behind_first ps, refl))))),
  e,
)
step (grammar.MoreArgs n) not (inr v) w (h, (s, (ps, e))) = (inr v, tt, e)
step (grammar.HoleArg n) not (inl v) w (h, (s, (a, e))) = (inl v, refl, e)
step (grammar.HoleArg n) not (inr v) w (h, (s, (a, e))) = (inr (worded_arg s a v), (h, (s, (a, refl))), e)
step (grammar.HoleArgs n) not (inl v) w (h, (s, (ps, e))) = (
  inl (worded_arg s (first_sort ps) v.0, worded_args s (behind_first ps) v.1),
  ((h, (s, (first_sort ps, refl))), (h, (s, (behind_first ps, refl)))),
  e,
)
step (grammar.HoleArgs n) not (inr v) w (h, (s, (ps, e))) = (inr v, tt, e)
step (grammar.MoreHoleArgs n) not (inl v) w (h, (s, (ps, e))) = (
  inl (v.0, (worded_arg s (first_sort ps) v.1.0, worded_args s (behind_first ps) v.1.1)),
  (refl, ((h, (s, (first_sort ps, refl))), (h, (s, (behind_first ps, refl))))),
  e,
)
step (grammar.MoreHoleArgs n) not (inr v) w (h, (s, (ps, e))) = (inr v, tt, e)
step (grammar.Statement n) not (inl v) w (s, e) = (inl (worded_stmt s v), (s, refl), e)
step (grammar.Statement n) not (inr (inl v)) w (s, e) = (inr (inl (worded_stmt s v)), (s, refl), e)
step (grammar.Statement n) not (inr (inr (inl v))) w (s, e) = (inr (inr (inl (worded_stmt s v))), (s, refl), e)
step (grammar.Statement n) not (inr (inr (inr (inl v)))) w (s, e) = (inr (inr (inr (inl (worded_stmt s v)))), (s, refl), e)
step (grammar.Statement n) not (inr (inr (inr (inr (inl v))))) w (s, e) = (inr (inr (inr (inr (inl (worded_stmt s v))))), (s, refl), e)
step (grammar.Statement n) not (inr (inr (inr (inr (inr (inl v)))))) w (s, e) = (inr (inr (inr (inr (inr (inl (worded_stmt s v)))))), (s, refl), e)
step (grammar.Statement n) not (inr (inr (inr (inr (inr (inr (inl v))))))) w (s, e) = (inr (inr (inr (inr (inr (inr (inl (worded_stmt s v))))))), (s, refl), e)
step (grammar.Statement n) not (inr (inr (inr (inr (inr (inr (inr (inl v)))))))) w (s, e) = (inr (inr (inr (inr (inr (inr (inr (inl (worded_stmt s v)))))))), (s, refl), e)
step (grammar.Statement n) not (inr (inr (inr (inr (inr (inr (inr (inr v)))))))) w (s, e) = (inr (inr (inr (inr (inr (inr (inr (inr (worded_stmt s v)))))))), (s, refl), e)
step grammar.Assignment not v w (s, e) = (
  (v.0, (v.1.0, (worded_source s v.1.1.0, v.1.1.1))),
  (refl, (refl, ((s, refl), refl))),
  e ∙ worded-of s v.0.at _ _ (worded_assigned s v.0 v.1.1.0),
)
step grammar.Store not v w (s, e) = (v, (refl, (refl, (refl, (refl, (refl, refl))))), e ∙ worded-of s v.0.at _ _ (worded-Store s v.1.0 v.1.1.1.1.0.1))
step grammar.StoreByte not v w (s, e) =
    (v, (refl, (refl, (refl, (refl, (refl, (refl, refl)))))), e ∙ worded-of s v.0.at _ _ (worded-StoreByte s v.1.1.0 v.1.1.1.1.1.0.1))
step (grammar.If n) not v w (s, e) = (
  (v.0, (v.1.0, ((map (worded_stmt s) v.1.1.0.0, v.1.1.0.1), (map (worded_stmt s) v.1.1.1.0, worded_join s v.1.1.1.1)))),
  (refl, (refl, ((s, refl), ((s, refl), (s, refl))))),
  e ∙ worded-of s v.0.at _ _ (worded-If s v.1.0 v.1.1.0.0 v.1.1.1.0 v.1.1.1.1),
)
step (grammar.Else n) not (inl v) w (s, e) = (inl (v.0, (map (worded_stmt s) v.1.0, v.1.1)), (refl, (s, refl)), e)
step (grammar.Else n) not (inr v) w (s, e) = (inr v, tt, e)
step grammar.Join not (inl v) w (s, e) = (inl (v.0, (worded_assertion s v.1.0, v.1.1)), (refl, ((s, refl), refl)), e)
step grammar.Join not (inr v) w (s, e) = (inr v, tt, e)
step (grammar.While n) not v w (s, e) = (
  (v.0, (v.1.0, (v.1.1.0, (worded_assertion s v.1.1.1.0, (map (worded_stmt s) v.1.1.1.1.0, v.1.1.1.1.1))))),
  (refl, (refl, (refl, ((s, refl), (s, refl))))),
  e ∙ worded-of s v.0.at _ _ (worded-While s v.1.0 v.1.1.0.at v.1.1.1.0 v.1.1.1.1.0),
)
step grammar.Return not v w (s, e) = (v, (refl, (refl, refl)), e ∙ worded-of s v.0.at _ _ (worded-Return s v.1.0.1))
step grammar.HintStatement not v w (s, e) =
    ((v.0, (worded_hint s v.1.0, v.1.1)), (refl, ((s, refl), refl)), e ∙ worded-of s v.0.at _ _ (worded-Hint s v.1.0))
step (grammar.Find n) not v w (s, e) =
    let o : overs.Over = v.1.1.1.1.1.1.0 in (
      (v.0, (v.1.0, (v.1.1.0, (v.1.1.1.0, (v.1.1.1.1.0, (v.1.1.1.1.1.0, (worded_over s o, (map (worded_stmt s) v.1.1.1.1.1.1.1.0, v.1.1.1.1.1.1.1.1)))))))),
      (refl, (refl, (refl, (refl, (refl, (refl, ((s, refl), (s, refl)))))))),
      e ∙ worded-of s v.0.at _ _ (worded-Find s v.1.0 v.1.1.1.0 v.1.1.1.1.1.0.1 o.list o.seq o.seen o.rest o.keep v.1.1.1.1.1.1.1.0),
    )
step (grammar.Walk n) not v w (s, e) =
    let o : overs.Over = v.1.1.1.1.0 in (
      (v.0, (v.1.0, (v.1.1.0, (v.1.1.1.0, (worded_over s o, (map (worded_stmt s) v.1.1.1.1.1.0, v.1.1.1.1.1.1)))))),
      (refl, (refl, (refl, (refl, ((s, refl), (s, refl)))))),
      e ∙ worded-of s v.0.at _ _ (worded-Walk s v.1.0 v.1.1.1.0 o.list o.seq o.seen o.rest o.keep v.1.1.1.1.1.0),
    )
step grammar.Over not v w (s, e) =
    let t : Visible = with_names s (sequences (v.1.1.1.1.1.0 ∷ v.1.1.1.1.1.1.1.0 ∷ [])) in (
      (
        v.0,
        (
          v.1.0,
          (
            v.1.1.0,
            (
              v.1.1.1.0,
              (
                v.1.1.1.1.0,
                (
                  v.1.1.1.1.1.0,
                  (
                    v.1.1.1.1.1.1.0,
                    (
                      v.1.1.1.1.1.1.1.0,
                      (
                        v.1.1.1.1.1.1.1.1.0,
                        worded_assertion t v.1.1.1.1.1.1.1.1.1,
                      ),
                    ),
                  ),
                ),
              ),
            ),
          ),
        ),
      ),
      (refl, (refl, (refl, (refl, (refl, (refl, (refl, (refl, (refl, (t, refl)))))))))),
      e,
    )
step grammar.Source not (inl v) w (s, e) = (inl v, refl, e)
step grammar.Source not (inr (inl v)) w (s, e) = (inr (inl v), (refl, (refl, refl)), e)
step grammar.Source not (inr (inr (inl v))) w (s, e) = (inr (inr (inl v)), (refl, (refl, refl)), e)
step grammar.Source not (inr (inr (inr (inl v)))) w (s, e) = (inr (inr (inr (inl v))), (refl, (refl, (refl, refl))), e)
step grammar.Source not (inr (inr (inr (inr v)))) w (s, e) = (inr (inr (inr (inr (worded_call s v)))), (s, refl), e)
step grammar.Call not v w (s, e) = (
  (v.0, (v.1.0, (v.1.1.0, (v.1.1.1.0, (v.1.1.1.1.0, (map (worded_hint s) v.1.1.1.1.1.0, (v.1.1.1.1.1.1.0, worded_assertion s v.1.1.1.1.1.1.1))))))),
  (refl, (refl, (refl, (refl, (refl, ((s, refl), (refl, (s, refl)))))))),
  e,
)
step grammar.Using not (inl v) w (s, e) = (inl (v.0, (worded_hint s v.1.0, map (worded_hint s) v.1.1)), (refl, ((s, refl), (s, refl))), e)
step grammar.Using not (inr v) w (s, e) = (inr v, tt, e)
step grammar.Hints not (inl v) w (s, e) = (inl (v.0, (worded_hint s v.1.0, map (worded_hint s) v.1.1)), (refl, ((s, refl), (s, refl))), e)
step grammar.Hints not (inr v) w (s, e) = (inr v, tt, e)
step grammar.Hint not (inl v) w (s, e) = (inl (worded_hint s v), (s, refl), e)
step grammar.Hint not (inr (inl v)) w (s, e) = (inr (inl (worded_hint s v)), (s, refl), e)
step grammar.Hint not (inr (inr (inl v))) w (s, e) = (inr (inr (inl (worded_hint s v))), (s, refl), e)
step grammar.Hint not (inr (inr (inr v))) w (s, e) = (inr (inr (inr (worded_hint s v))), (s, refl), e)
step grammar.PredicateHint not (inl v) w (s, e) = (inl v, (refl, (refl, refl)), e)
step grammar.PredicateHint not (inr v) w (s, e) =
    let ps : List Bind = asked_by (predicate_named s.decls v.1.0.bytes) v.1.1.1.0 in (
      inr (v.0, (v.1.0, (v.1.1.0, (worded_args s ps v.1.1.1.0, v.1.1.1.1)))),
      (refl, (refl, (refl, ((omega arith, (s, (ps, refl))), (refl, (refl, refl)))))),
      e,
    )
step grammar.BlockHint not (inl v) w (s, e) = (inl v, (refl, refl), e)
step grammar.BlockHint not (inr (inl v)) w (s, e) = (inr (inl v), (refl, (refl, (refl, refl))), e)
step grammar.BlockHint not (inr (inr v)) w (s, e) = (inr (inr v), (refl, (refl, (refl, refl))), e)
step grammar.CellHint not (inl v) w (s, e) = (inl v, (refl, refl), e)
step grammar.CellHint not (inr (inl v)) w (s, e) = (inr (inl v), (refl, refl), e)
step grammar.CellHint not (inr (inr (inl v))) w (s, e) = (inr (inr (inl v)), (refl, refl), e)
step grammar.CellHint not (inr (inr (inr (inl v)))) w (s, e) = (inr (inr (inr (inl v))), (refl, refl), e)
step grammar.CellHint not (inr (inr (inr (inr v)))) w (s, e) = (inr (inr (inr (inr v))), (refl, refl), e)
step grammar.FactHint not (inl v) w (s, e) = (inl v, (refl, refl), e)
step grammar.FactHint not (inr (inl v)) w (s, e) = (inr (inl v), (refl, refl), e)
step grammar.FactHint not (inr (inr v)) w (s, e) = (inr (inr (v.0, (v.1.0, (v.1.1.0, worded_arg s None v.1.1.1)))), (refl, (refl, (refl, (omega arith, (s, (None, refl)))))), e)
step (grammar.NameTerm m) not v w e = absurd e
step (grammar.StartTerm m) not v w e = absurd e
step grammar.NameList not (inl v) w e = (inl v, steady_value (written_rule grammar.NameList) (inl v) refl, e)
step grammar.NameList not (inr v) w e = (inr v, tt, e)
step (grammar.Names l k) not (inl v) w e = (inl v, steady_value (written_rule (grammar.Names l k)) (inl v) refl, e)
step (grammar.Names l k) not (inr v) w e = (inr v, steady_value (written_rule (grammar.Names l k)) (inr v) refl, e)
step grammar.For not (inl v) w e = (inl v, steady_value (written_rule grammar.For) (inl v) refl, e)
step grammar.For not (inr v) w e = (inr v, steady_value (written_rule grammar.For) (inr v) refl, e)
step (grammar.MoreBinds k) not (inl v) w e = (inl v, steady_value (written_rule (grammar.MoreBinds k)) (inl v) refl, e)
step (grammar.MoreBinds k) not (inr v) w e = (inr v, steady_value (written_rule (grammar.MoreBinds k)) (inr v) refl, e)
step grammar.BindList not (inl v) w e = (inl v, steady_value (written_rule grammar.BindList) (inl v) refl, e)
step grammar.BindList not (inr v) w e = (inr v, steady_value (written_rule grammar.BindList) (inr v) refl, e)
step grammar.Sort not (inl v) w e = (inl v, steady_value (written_rule grammar.Sort) (inl v) refl, e)
step grammar.Sort not (inr v) w e = (inr v, steady_value (written_rule grammar.Sort) (inr v) refl, e)
step grammar.Imports not (inl v) w e = (inl v, steady_value (written_rule grammar.Imports) (inl v) refl, e)
step grammar.Imports not (inr v) w e = (inr v, steady_value (written_rule grammar.Imports) (inr v) refl, e)
step grammar.Export not (inl v) w e = (inl v, steady_value (written_rule grammar.Export) (inl v) refl, e)
step grammar.Export not (inr v) w e = (inr v, steady_value (written_rule grammar.Export) (inr v) refl, e)
step grammar.Locals not (inl v) w e = (inl v, steady_value (written_rule grammar.Locals) (inl v) refl, e)
step grammar.Locals not (inr v) w e = (inr v, steady_value (written_rule grammar.Locals) (inr v) refl, e)
step (grammar.Pure n) not (inl v) w e = (inl v, steady_value (written_rule (grammar.Pure n)) (inl v) refl, e)
step (grammar.Pure n) not (inr (inl v)) w e = (inr (inl v), steady_value (written_rule (grammar.Pure n)) (inr (inl v)) refl, e)
step (grammar.Pure n) not (inr (inr (inl v))) w e = (inr (inr (inl v)), steady_value (written_rule (grammar.Pure n)) (inr (inr (inl v))) refl, e)
step (grammar.Pure n) not (inr (inr (inr v))) w e = (inr (inr (inr v)), steady_value (written_rule (grammar.Pure n)) (inr (inr (inr v))) refl, e)
step grammar.Rel not (inl v) w e = (inl v, steady_value (written_rule grammar.Rel) (inl v) refl, e)
step grammar.Rel not (inr (inl v)) w e = (inr (inl v), steady_value (written_rule grammar.Rel) (inr (inl v)) refl, e)
step grammar.Rel not (inr (inr (inl v))) w e = (inr (inr (inl v)), steady_value (written_rule grammar.Rel) (inr (inr (inl v))) refl, e)
step grammar.Rel not (inr (inr (inr v))) w e = (inr (inr (inr v)), steady_value (written_rule grammar.Rel) (inr (inr (inr v))) refl, e)
step grammar.Membership not (inl v) w e = (inl v, steady_value (written_rule grammar.Membership) (inl v) refl, e)
step grammar.Membership not (inr v) w e = (inr v, steady_value (written_rule grammar.Membership) (inr v) refl, e)
step (grammar.Sums k n) not (inl v) w e = (inl v, steady_value (written_rule (grammar.Sums k n)) (inl v) refl, e)
step (grammar.Sums k n) not (inr v) w e = (inr v, steady_value (written_rule (grammar.Sums k n)) (inr v) refl, e)
step grammar.Sign not (inl v) w e = (inl v, steady_value (written_rule grammar.Sign) (inl v) refl, e)
step grammar.Sign not (inr v) w e = (inr v, steady_value (written_rule grammar.Sign) (inr v) refl, e)
step (grammar.Part m n) not (inl v) w e = (inl v, steady_value (written_rule (grammar.Part m n)) (inl v) refl, e)
step (grammar.Part m n) not (inr (inl v)) w e = (inr (inl v), steady_value (written_rule (grammar.Part m n)) (inr (inl v)) refl, e)
step (grammar.Part m n) not (inr (inr (inl v))) w e = (inr (inr (inl v)), steady_value (written_rule (grammar.Part m n)) (inr (inr (inl v))) refl, e)
step (grammar.Part m n) not (inr (inr (inr (inl v)))) w e = (inr (inr (inr (inl v))), steady_value (written_rule (grammar.Part m n)) (inr (inr (inr (inl v)))) refl, e)
step (grammar.Part m n) not (inr (inr (inr (inr (inl v))))) w e = (inr (inr (inr (inr (inl v)))), steady_value (written_rule (grammar.Part m n)) (inr (inr (inr (inr (inl v))))) refl, e)
step (grammar.Part m n) not (inr (inr (inr (inr (inr (inl v)))))) w e = (inr (inr (inr (inr (inr (inl v))))), steady_value (written_rule (grammar.Part m n)) (inr (inr (inr (inr (inr (inl v)))))) refl, e)
step (grammar.Part m n) not (inr (inr (inr (inr (inr (inr v)))))) w e = (inr (inr (inr (inr (inr (inr v))))), steady_value (written_rule (grammar.Part m n)) (inr (inr (inr (inr (inr (inr v)))))) refl, e)
step (grammar.Seq n) not (inl v) w e = (inl v, steady_value (written_rule (grammar.Seq n)) (inl v) refl, e)
step (grammar.Seq n) not (inr v) w e = (inr v, steady_value (written_rule (grammar.Seq n)) (inr v) refl, e)
step (grammar.PlainSeq n) not (inl v) w e = (inl v, steady_value (written_rule (grammar.PlainSeq n)) (inl v) refl, e)
step (grammar.PlainSeq n) not (inr (inl v)) w e = (inr (inl v), steady_value (written_rule (grammar.PlainSeq n)) (inr (inl v)) refl, e)
step (grammar.PlainSeq n) not (inr (inr v)) w e = (inr (inr v), steady_value (written_rule (grammar.PlainSeq n)) (inr (inr v)) refl, e)
step grammar.Operand not (inl v) w e = (inl v, steady_value (written_rule grammar.Operand) (inl v) refl, e)
step grammar.Operand not (inr (inl v)) w e = (inr (inl v), steady_value (written_rule grammar.Operand) (inr (inl v)) refl, e)
step grammar.Operand not (inr (inr v)) w e = (inr (inr v), steady_value (written_rule grammar.Operand) (inr (inr v)) refl, e)
step grammar.Operands not (inl v) w e = (inl v, steady_value (written_rule grammar.Operands) (inl v) refl, e)
step grammar.Operands not (inr v) w e = (inr v, steady_value (written_rule grammar.Operands) (inr v) refl, e)
step grammar.MoreOperands not (inl v) w e = (inl v, steady_value (written_rule grammar.MoreOperands) (inl v) refl, e)
step grammar.MoreOperands not (inr v) w e = (inr v, steady_value (written_rule grammar.MoreOperands) (inr v) refl, e)
step grammar.Offset not (inl v) w e = (inl v, steady_value (written_rule grammar.Offset) (inl v) refl, e)
step grammar.Offset not (inr v) w e = (inr v, steady_value (written_rule grammar.Offset) (inr v) refl, e)
step grammar.Op not (inl v) w e = (inl v, steady_value (written_rule grammar.Op) (inl v) refl, e)
step grammar.Op not (inr (inl v)) w e = (inr (inl v), steady_value (written_rule grammar.Op) (inr (inl v)) refl, e)
step grammar.Op not (inr (inr (inl v))) w e = (inr (inr (inl v)), steady_value (written_rule grammar.Op) (inr (inr (inl v))) refl, e)
step grammar.Op not (inr (inr (inr (inl v)))) w e = (inr (inr (inr (inl v))), steady_value (written_rule grammar.Op) (inr (inr (inr (inl v)))) refl, e)
step grammar.Op not (inr (inr (inr (inr (inl v))))) w e = (inr (inr (inr (inr (inl v)))), steady_value (written_rule grammar.Op) (inr (inr (inr (inr (inl v))))) refl, e)
step grammar.Op not (inr (inr (inr (inr (inr v))))) w e = (inr (inr (inr (inr (inr v)))), steady_value (written_rule grammar.Op) (inr (inr (inr (inr (inr v))))) refl, e)
step grammar.Callee not (inl v) w e = (inl v, steady_value (written_rule grammar.Callee) (inl v) refl, e)
step grammar.Callee not (inr v) w e = (inr v, steady_value (written_rule grammar.Callee) (inr v) refl, e)
step grammar.At not (inl v) w e = (inl v, steady_value (written_rule grammar.At) (inl v) refl, e)
step grammar.At not (inr v) w e = (inr v, steady_value (written_rule grammar.At) (inr v) refl, e)
step (grammar.Num m) not (inl v) w e = (inl v, steady_value (written_rule (grammar.Num m)) (inl v) refl, e)
step (grammar.Num m) not (inr v) w e = (inr v, steady_value (written_rule (grammar.Num m)) (inr v) refl, e)
step (grammar.Inner n) not (inl v) w e = (inl v, steady_value (written_rule (grammar.Inner n)) (inl v) refl, e)
step (grammar.Inner n) not (inr v) w e = (inr v, steady_value (written_rule (grammar.Inner n)) (inr v) refl, e)
step (grammar.Tail n) not (inl v) w e = (inl v, steady_value (written_rule (grammar.Tail n)) (inl v) refl, e)
step (grammar.Tail n) not (inr v) w e = (inr v, steady_value (written_rule (grammar.Tail n)) (inr v) refl, e)
step grammar.Arrow not (inl v) w e = (inl v, steady_value (written_rule grammar.Arrow) (inl v) refl, e)
step grammar.Arrow not (inr v) w e = (inr v, steady_value (written_rule grammar.Arrow) (inr v) refl, e)
step grammar.Reserving not (inl (v, inl t)) w e = (inl (v, inl t), steady_value (written_rule grammar.Reserving) (inl (v, inl t)) refl, e)
step grammar.Reserving not (inl (v, inr t)) w e = (inl (v, inr t), steady_value (written_rule grammar.Reserving) (inl (v, inr t)) refl, e)
step grammar.Reserving not (inr v) w e = (inr v, steady_value (written_rule grammar.Reserving) (inr v) refl, e)
step (grammar.Bind m) not v w e = (v, steady_value (written_rule (grammar.Bind m)) v refl, e)
step grammar.Binds not v w e = (v, steady_value (written_rule grammar.Binds) v refl, e)
step grammar.Import not v w e = (v, steady_value (written_rule grammar.Import) v refl, e)
step (grammar.CodeFact n) not v w e = (v, steady_value (written_rule (grammar.CodeFact n)) v refl, e)
step (grammar.Word n) not v w e = (v, steady_value (written_rule (grammar.Word n)) v refl, e)
step (grammar.Sum m n) not v w e = (v, steady_value (written_rule (grammar.Sum m n)) v refl, e)
step grammar.Test not v w e = (v, steady_value (written_rule grammar.Test) v refl, e)
step grammar.Place not v w e = (v, steady_value (written_rule grammar.Place) v refl, e)
step (grammar.Nam m) not v w e = (v, steady_value (written_rule (grammar.Nam m)) v refl, e)
step (grammar.Start m n) not v w e = (v, steady_value (written_rule (grammar.Start m n)) v refl, e)
step (grammar.Other m n) not v w e = (v, steady_value (written_rule (grammar.Other m n)) v refl, e)

-- ---- arguments

abbrev at_place : ℕ → ℕ → Token
at_place c at = record { kind = fixed c; at = at }

-- a name in brackets, as an argument
bracket : (n : ℕ) (x : Name) → 0 < n → is_name x.bytes ≡ true → HasText (ref (grammar.Arg n)) (arg.Word x.at (word.Var (var.Named x)))
bracket n x some is =
    rule_text (grammar.Arg n) (inl (piece.Word x.at inside))
    (left_text (ref (grammar.Sum None n)) _ (piece.Word x.at inside)
    (rule_text (grammar.Sum None n) (piece.Word x.at inside, [])
    (seq_text _ _ (piece.Word x.at inside) [] part (none 255 n))))
  where
    inside : word.Word
    inside = word.Var (var.Named x)

    none : (k n : ℕ) → HasText (ref (grammar.Sums k n)) []
    none k n = rule_text (grammar.Sums k n) (inr tt) (right_text _ empty tt (record { tokens = []; lexemes = tt; text = epsilon }))

    lone : (m : ℕ) → HasText (ref (grammar.Part None m)) (piece.Name x)
    lone m =
        rule_text (grammar.Part None m) (inr (inl x))
        (right_text _ _ (inl x) (left_text _ _ x (rule_text (grammar.Nam None) (record { kind = kind.Name x; at = x.at }) (token_text 0 None _ refl refl is))))

    alone : (m : ℕ) → HasText (ref (grammar.Word m)) inside
    alone m =
        rule_text (grammar.Word m) (piece.Name x)
        (rule_text (grammar.Sum None m) (piece.Name x, []) (seq_text _ _ (piece.Name x) [] (lone m) (none 255 m)))

    part : HasText (ref (grammar.Part None n)) (piece.Word x.at inside)
    part =
        let v : Token × (word.Word × Token) = (at_place LEFT_PAREN x.at, (inside, at_place RIGHT_PAREN x.at)) in
        rule_text (grammar.Part None n) (inr (inr (inr (inr (inr (inr v))))))
        (right_text _ _ _ (right_text _ _ _ (right_text _ _ _ (right_text _ _ _ (right_text _ _ _ (right_text _ _ _
        (seq_text _ _ (at_place LEFT_PAREN x.at) (inside, at_place RIGHT_PAREN x.at) opens
        (seq_text _ _ inside (at_place RIGHT_PAREN x.at) (alone (n - 1)) closes))))))))
      where
        opens : HasText (token LEFT_PAREN (past limit.Nesting n)) (at_place LEFT_PAREN x.at)
        opens = token_text LEFT_PAREN (past limit.Nesting n) (at_place LEFT_PAREN x.at) (not_past limit.Nesting n some) refl (omega arith)

        closes : HasText (token RIGHT_PAREN None) (at_place RIGHT_PAREN x.at)
        closes = token_text RIGHT_PAREN None (at_place RIGHT_PAREN x.at) refl refl (omega arith)

-- a name alone that has a text, worded
lone_argument : (n : ℕ) (x : Name) → HasText (ref (grammar.Arg n)) (arg.Bare x) → is_name x.bytes ≡ true → 0 < n → (s : Visible) (a : Option Sort)
    → HasText (ref (grammar.Arg n)) (worded_arg s a (arg.Bare x))
lone_argument n x bare is some s a = by_hole (is_hole x)
  where
    by_sort : (r : Sort) → HasText (ref (grammar.Arg n)) (bracketed r x)
    by_sort sort.Word = bracket n x some is
    by_sort sort.Seq = bare

    by_hole : (h : Bool) → HasText (ref (grammar.Arg n)) (if h then arg.Bare x else bracketed (bare_sort s a x) x)
    by_hole true = bare
    by_hole false = by_sort (bare_sort s a x)

-- an argument's text, as it is and worded
argument : (n : ℕ) (v : Value Token Tree (written_rule (grammar.Arg n))) → Clean Known (written_rule (grammar.Arg n)) v → 0 < n → (s : Visible) (a : Option Sort)
    → HasText (ref (grammar.Arg n)) (worded_arg s a (written_action (grammar.Arg n) v))
argument n (inl (piece.Name x)) c some s a =
    lone_argument n x (rule_text (grammar.Arg n) (inl (piece.Name x)) (left_text _ _ (piece.Name x) (c.0 (piece.Name x) refl))) c.1 some s a
argument n (inl (piece.Word at w)) c some s a = rule_text (grammar.Arg n) (inl (piece.Word at w)) (left_text _ _ (piece.Word at w) (c.0 (piece.Word at w) refl))
argument n (inr (inl x)) c some s a =
    lone_argument n x (rule_text (grammar.Arg n) (inr (inl x)) (right_text _ _ (inl x) (left_text _ _ x (c.0 x refl)))) c.1 some s a
argument n (inr (inr v)) c some s a = rule_text (grammar.Arg n) (inr (inr v)) (right_text _ _ (inr v) (right_text _ _ v (c.0 v refl)))

-- ---- all productions

-- further parts make a sum no name
summed_name : (p : Piece) (bs : List (Bool × word.Word)) → NameOf p → NameOf (summed p bs)
summed_name p [] h = h
summed_name p (b ∷ bs) h = summed_name (joined p b) bs tt

fact : (n : N) (v : Value Token Tree (written_rule n)) → Clean Known (written_rule n) v → Fact n (written_action n v)
fact (grammar.Nam m) v c = name_is v.kind c.1 c.2
fact (grammar.Part m n) (inl v) c = tt
fact (grammar.Part m n) (inr (inl v)) c = c.1
fact (grammar.Part m n) (inr (inr (inl v))) c = tt
fact (grammar.Part m n) (inr (inr (inr (inl v)))) c = tt
fact (grammar.Part m n) (inr (inr (inr (inr (inl v))))) c = tt
fact (grammar.Part m n) (inr (inr (inr (inr (inr (inl v)))))) c = tt
fact (grammar.Part m n) (inr (inr (inr (inr (inr (inr v)))))) c = tt
fact (grammar.Sum m n) v c = summed_name v.0 v.1 c.0.1
fact n v c = tt

by_step : (n : N) → is_argument n ≡ false → (v : Value Token Tree (written_rule n)) → Clean Known (written_rule n) v → (w : Tree n) → Worded n (written_action n v) w
    → HasText (ref n) w
by_step n not v c w k =
    let (u, h, e) = step n not v w k in
    subst (HasText (ref n)) (sym e) (rule_text n u (worded_value (written_rule n) v u c h))

has_text : (n : N) (v : Value Token Tree (written_rule n)) → Clean Known (written_rule n) v → (w : Tree n) → Worded n (written_action n v) w → HasText (ref n) w
has_text (grammar.Arg n) v c w (some, (s, (a, e))) = subst (HasText (ref (grammar.Arg n))) (sym e) (argument n v c some s a)
has_text n v c w k = by_step n refl v c w k

-- a module that tokens are within the limits, worded
pub worded_has_text : (ts : List Token) (m : Module) → AreLexemes ts → Derives written (ref grammar.Module) (unmarked ts) m → (d : Decls)
    → HasText (ref grammar.Module) (worded_with d m)
worded_has_text ts m l derived d =
    let known : Known grammar.Module m =
    derivations.induction written (Says Known) (λ n p v s u k. (has_text n v (clean Known (written_rule n) p v s u k), fact n v (clean Known (written_rule n) p v s u k)))
    (ref grammar.Module) (unmarked ts) m derived
    (unmarked-is Which ts) (subst AreLexemes (sym (tokens_of-unmarked Which ts)) l) in
    known.0 (worded_with d m) (d, refl)
