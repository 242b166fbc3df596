-- Lists, read item by item: where another item begins, and where none does.
use Rattle.std.proofs.Common.{◌≡◌, ℕ, ◌-◌, nat_eq, true, false, List, [], ◌∷◌, Option, None, Ok, refl, ◌∙◌, subst}
use Rattle.bed_grammar.specs.Exact.{peek}
use Rattle.bed_grammar.specs.Tables.{class_at, has}
use Rattle.bed_grammar.specs.Parsing.{outcome_map, read_token}
use Rattle.bed_grammar.proofs.Reading.{outcome_map_twice}
use Rattle.bed_lex.specs.declared.token.Token.{Token}
use Rattle.bed_lang.specs.declared.limit.Which.{Which}
use Rattle.bed_lang.specs.declared.limit.Which.TheVariants as limit
use Rattle.bed_read.specs.Classes.{class, COMMA, BAR, STAR}
use Rattle.bed_read.specs.Written.{Tree, past, Nam, Arg, Assertion, Bind, Cases, Function, Functions, Hint, Hints, HoleArg, Import, Imports, MoreArgs, MoreBinds, MoreHoleArgs, MoreOperands, Names, Operand, Predicate, Predicates, Signature, Signatures, Statement, Statements, Term, Terms}
use Rattle.bed_read.specs.Tables.{firsts, read}
use Rattle.bed_read.proofs.Certificate.{by_rule}

pub more_args_more : (n : ℕ) (s : List Token) (t : Token) (m r : List Token) (x : Tree (Arg n)) → read_token {L = Which} class COMMA None s ≡ Ok (t, m) → nat_eq (class_at class (peek s)) COMMA ≡ true → read (Arg n) m ≡ Ok (x, r)
    → read (MoreArgs n) s ≡ outcome_map (λ xs. x ∷ xs) (read (MoreArgs n) r)
more_args_more n s t m r x e h f = by_rule (MoreArgs n) s _ (rw (h, e, f) (outcome_map_twice _ _ _ ∙ outcome_map_twice _ _ _ ∙ outcome_map_twice _ _ _))

pub more_args_done : (n : ℕ) (s : List Token) → nat_eq (class_at class (peek s)) COMMA ≡ false → read (MoreArgs n) s ≡ Ok ([], s)
more_args_done n s h = by_rule (MoreArgs n) s _ (rw h refl)

pub more_hole_args_more : (n : ℕ) (s : List Token) (t : Token) (m r : List Token) (x : Tree (HoleArg n)) → read_token {L = Which} class COMMA None s ≡ Ok (t, m) → nat_eq (class_at class (peek s)) COMMA ≡ true → read (HoleArg n) m ≡ Ok (x, r)
    → read (MoreHoleArgs n) s ≡ outcome_map (λ xs. x ∷ xs) (read (MoreHoleArgs n) r)
more_hole_args_more n s t m r x e h f = by_rule (MoreHoleArgs n) s _ (rw (h, e, f) (outcome_map_twice _ _ _ ∙ outcome_map_twice _ _ _ ∙ outcome_map_twice _ _ _))

pub more_hole_args_done : (n : ℕ) (s : List Token) → nat_eq (class_at class (peek s)) COMMA ≡ false → read (MoreHoleArgs n) s ≡ Ok ([], s)
more_hole_args_done n s h = by_rule (MoreHoleArgs n) s _ (rw h refl)

pub more_operands_more : (s : List Token) (t : Token) (m r : List Token) (x : Tree Operand) → read_token {L = Which} class COMMA None s ≡ Ok (t, m) → nat_eq (class_at class (peek s)) COMMA ≡ true → read Operand m ≡ Ok (x, r)
    → read MoreOperands s ≡ outcome_map (λ xs. x.1 ∷ xs) (read MoreOperands r)
more_operands_more s t m r x e h f = by_rule MoreOperands s _ (rw (h, e, f) (outcome_map_twice _ _ _ ∙ outcome_map_twice _ _ _ ∙ outcome_map_twice _ _ _))

pub more_operands_done : (s : List Token) → nat_eq (class_at class (peek s)) COMMA ≡ false → read MoreOperands s ≡ Ok ([], s)
more_operands_done s h = by_rule MoreOperands s _ (rw h refl)

pub more_hints_more : (s : List Token) (t : Token) (m r : List Token) (x : Tree Hint) → read_token {L = Which} class COMMA None s ≡ Ok (t, m) → nat_eq (class_at class (peek s)) COMMA ≡ true → read Hint m ≡ Ok (x, r)
    → read Hints s ≡ outcome_map (λ xs. x ∷ xs) (read Hints r)
more_hints_more s t m r x e h f = by_rule Hints s _ (rw (h, e, f) (outcome_map_twice _ _ _ ∙ outcome_map_twice _ _ _ ∙ outcome_map_twice _ _ _))

pub more_hints_done : (s : List Token) → nat_eq (class_at class (peek s)) COMMA ≡ false → read Hints s ≡ Ok ([], s)
more_hints_done s h = by_rule Hints s _ (rw h refl)

pub more_names_more : (w : Which) (k : ℕ) (s : List Token) (t : Token) (m r : List Token) (l : Option Which) (x : Tree (Nam l)) → read_token {L = Which} class COMMA None s ≡ Ok (t, m) → nat_eq (class_at class (peek s)) COMMA ≡ true → l ≡ past w k → read (Nam l) m ≡ Ok (x, r)
    → read (Names w k) s ≡ outcome_map (λ xs. x ∷ xs) (read (Names w (k - 1)) r)
more_names_more w k s t m r l x e h p f = by_rule (Names w k) s _ (rw (h, e, subst (λ z. read (Nam z) m ≡ Ok (x, r)) p f) (outcome_map_twice _ _ _ ∙ outcome_map_twice _ _ _ ∙ outcome_map_twice _ _ _))

pub more_names_done : (w : Which) (k : ℕ) (s : List Token) → nat_eq (class_at class (peek s)) COMMA ≡ false → read (Names w k) s ≡ Ok ([], s)
more_names_done w k s h = by_rule (Names w k) s _ (rw h refl)

pub more_binds_more : (k : ℕ) (s : List Token) (t : Token) (m r : List Token) (l : Option Which) (x : Tree (Bind l)) → read_token {L = Which} class COMMA None s ≡ Ok (t, m) → nat_eq (class_at class (peek s)) COMMA ≡ true → l ≡ past limit.Params k → read (Bind l) m ≡ Ok (x, r)
    → read (MoreBinds k) s ≡ outcome_map (λ xs. x ∷ xs) (read (MoreBinds (k - 1)) r)
more_binds_more k s t m r l x e h p f = by_rule (MoreBinds k) s _ (rw (h, e, subst (λ z. read (Bind z) m ≡ Ok (x, r)) p f) (outcome_map_twice _ _ _ ∙ outcome_map_twice _ _ _ ∙ outcome_map_twice _ _ _))

pub more_binds_done : (k : ℕ) (s : List Token) → nat_eq (class_at class (peek s)) COMMA ≡ false → read (MoreBinds k) s ≡ Ok ([], s)
more_binds_done k s h = by_rule (MoreBinds k) s _ (rw h refl)

pub more_cases_more : (k : ℕ) (s : List Token) (t : Token) (m r : List Token) (l : Option Which) (x : Tree (Assertion l)) → read_token {L = Which} class BAR None s ≡ Ok (t, m) → nat_eq (class_at class (peek s)) BAR ≡ true → l ≡ past limit.Cases k → read (Assertion l) m ≡ Ok (x, r)
    → read (Cases k) s ≡ outcome_map (λ xs. x ∷ xs) (read (Cases (k - 1)) r)
more_cases_more k s t m r l x e h p f = by_rule (Cases k) s _ (rw (h, e, subst (λ z. read (Assertion z) m ≡ Ok (x, r)) p f) (outcome_map_twice _ _ _ ∙ outcome_map_twice _ _ _ ∙ outcome_map_twice _ _ _))

pub more_cases_done : (k : ℕ) (s : List Token) → nat_eq (class_at class (peek s)) BAR ≡ false → read (Cases k) s ≡ Ok ([], s)
more_cases_done k s h = by_rule (Cases k) s _ (rw h refl)

pub more_terms_more : (k : ℕ) (s : List Token) (t : Token) (m r : List Token) (l : Option Which) (x : Tree (Term l)) → read_token {L = Which} class STAR None s ≡ Ok (t, m) → nat_eq (class_at class (peek s)) STAR ≡ true → l ≡ past limit.Terms k → read (Term l) m ≡ Ok (x, r)
    → read (Terms k) s ≡ outcome_map (λ xs. x.1 ∷ xs) (read (Terms (k - 1)) r)
more_terms_more k s t m r l x e h p f = by_rule (Terms k) s _ (rw (h, e, subst (λ z. read (Term z) m ≡ Ok (x, r)) p f) (outcome_map_twice _ _ _ ∙ outcome_map_twice _ _ _ ∙ outcome_map_twice _ _ _))

pub more_terms_done : (k : ℕ) (s : List Token) → nat_eq (class_at class (peek s)) STAR ≡ false → read (Terms k) s ≡ Ok ([], s)
more_terms_done k s h = by_rule (Terms k) s _ (rw h refl)

pub signatures_more : (s r : List Token) (x : Tree Signature) → has (firsts Signature) (class_at class (peek s)) ≡ true → read Signature s ≡ Ok (x, r)
    → read Signatures s ≡ outcome_map (λ xs. x ∷ xs) (read Signatures r)
signatures_more s r x h f = by_rule Signatures s _ (rw (h, f) (outcome_map_twice _ _ _ ∙ outcome_map_twice _ _ _))

pub signatures_done : (s : List Token) → has (firsts Signature) (class_at class (peek s)) ≡ false → read Signatures s ≡ Ok ([], s)
signatures_done s h = by_rule Signatures s _ (rw h refl)

pub predicates_more : (s r : List Token) (x : Tree Predicate) → has (firsts Predicate) (class_at class (peek s)) ≡ true → read Predicate s ≡ Ok (x, r)
    → read Predicates s ≡ outcome_map (λ xs. x ∷ xs) (read Predicates r)
predicates_more s r x h f = by_rule Predicates s _ (rw (h, f) (outcome_map_twice _ _ _ ∙ outcome_map_twice _ _ _))

pub predicates_done : (s : List Token) → has (firsts Predicate) (class_at class (peek s)) ≡ false → read Predicates s ≡ Ok ([], s)
predicates_done s h = by_rule Predicates s _ (rw h refl)

pub imports_more : (s r : List Token) (x : Tree Import) → has (firsts Import) (class_at class (peek s)) ≡ true → read Import s ≡ Ok (x, r)
    → read Imports s ≡ outcome_map (λ xs. x ∷ xs) (read Imports r)
imports_more s r x h f = by_rule Imports s _ (rw (h, f) (outcome_map_twice _ _ _ ∙ outcome_map_twice _ _ _))

pub imports_done : (s : List Token) → has (firsts Import) (class_at class (peek s)) ≡ false → read Imports s ≡ Ok ([], s)
imports_done s h = by_rule Imports s _ (rw h refl)

pub functions_more : (s r : List Token) (x : Tree Function) → has (firsts Function) (class_at class (peek s)) ≡ true → read Function s ≡ Ok (x, r)
    → read Functions s ≡ outcome_map (λ xs. x ∷ xs) (read Functions r)
functions_more s r x h f = by_rule Functions s _ (rw (h, f) (outcome_map_twice _ _ _ ∙ outcome_map_twice _ _ _))

pub functions_done : (s : List Token) → has (firsts Function) (class_at class (peek s)) ≡ false → read Functions s ≡ Ok ([], s)
functions_done s h = by_rule Functions s _ (rw h refl)

pub statements_more : (n : ℕ) (s r : List Token) (x : Tree (Statement n)) → has (firsts (Statement n)) (class_at class (peek s)) ≡ true → read (Statement n) s ≡ Ok (x, r)
    → read (Statements n) s ≡ outcome_map (λ xs. x ∷ xs) (read (Statements n) r)
statements_more n s r x h f = by_rule (Statements n) s _ (rw (h, f) (outcome_map_twice _ _ _ ∙ outcome_map_twice _ _ _))

pub statements_done : (n : ℕ) (s : List Token) → has (firsts (Statement n)) (class_at class (peek s)) ≡ false → read (Statements n) s ≡ Ok ([], s)
statements_done n s h = by_rule (Statements n) s _ (rw h refl)
