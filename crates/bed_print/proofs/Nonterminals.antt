-- The trees of the grammar's nonterminals: with every place set to 0, and their tokens as they are printed.
use Rattle.std.proofs.Common.{ℕ, Bool, nat_lt, if◌then◌else◌, List, [], ◌∷◌, ◌++◌, map, inl, inr}
use Rattle.bed_grammar.specs.Grammar.{Rhs, token, empty, seq, alt, ref, Value}
use Rattle.bed_lang.specs.declared.word.Word.{Word}
use Rattle.bed_lang.specs.declared.limit.Which.{Which}
use Rattle.bed_lex.specs.declared.token.Token.{Token}
use Rattle.bed_lex.specs.declared.token.Kind.{Kind}
use Rattle.bed_lex.specs.declared.token.Kind.TheVariants as kind
use Rattle.bed_read.specs.declared.parts.Piece.{Piece}
use Rattle.bed_read.specs.declared.parts.Piece.TheVariants as piece
use Rattle.bed_read.specs.declared.parts.Tail as tails
use Rattle.bed_read.specs.declared.parts.Tail.TheVariants as tail
use Rattle.bed_read.specs.declared.parts.Source as sources
use Rattle.bed_read.specs.declared.parts.Source.TheVariants as source
use Rattle.bed_read.specs.declared.parts.Call as calls
use Rattle.bed_read.specs.declared.parts.Over as overs
use Rattle.bed_read.specs.Classes.{COMMA, STAR, BAR, PLUS, MINUS, IN, NOTIN, RESERVING, LEFT_BRACKET, RIGHT_BRACKET, BYTE}
use Rattle.bed_read.specs.Written as grammar
use Rattle.bed_read.specs.Written.{N, Tree}
use Rattle.bed_print.specs.Kinds.{fixed, all_of, joined, each_after, parted, name_kinds, word_kinds, seq_kinds, arg_kinds, pure_kinds, term_kinds, sort_kind, bind_kinds, binds_kinds, assertion_kinds, for_kinds, signature_kinds, predicate_kinds, import_kinds, operand_kinds, op_kind, rel_kind, offset_kinds, place_kinds, test_kinds, at_kinds, hint_kinds, using_kinds, via_kinds, join_kinds, over_kinds, call_kinds, stmt_kinds, else_kinds, body_kinds, export_kinds, locals_kinds, function_kinds, module_kinds}
use Rattle.bed_print.proofs.Places.{bare_option, bare_name, bare_kind, bare_word, bare_seq, bare_arg, bare_pure, bare_term, bare_bind, bare_assertion, bare_signature, bare_predicate, bare_import, bare_operand, bare_place, bare_test, bare_hint, bare_join, bare_stmt, bare_function, bare_module}

abbrev pub bare_piece : Piece → Piece
bare_piece (piece.Name x) = piece.Name (bare_name x)
bare_piece (piece.Word at w) = piece.Word 0 (bare_word w)

abbrev pub bare_part : Bool × Word → Bool × Word
bare_part b = (b.0, bare_word b.1)

abbrev pub bare_tail : tails.Tail → tails.Tail
bare_tail (tail.Compared r w) = tail.Compared r (bare_word w)
bare_tail (tail.Belongs b s) = tail.Belongs b (bare_seq s)

abbrev pub bare_call : calls.Call → calls.Call
bare_call c = record {
  place = 0;
  target = bare_operand c.target;
  via = bare_option bare_name c.via;
  args = map bare_operand c.args;
  hints = map bare_hint c.hints;
  after = bare_assertion c.after;
}

abbrev pub bare_source : sources.Source → sources.Source
bare_source (source.Operand a) = source.Operand (bare_operand a)
bare_source (source.Compute o a b) = source.Compute o (bare_operand a) (bare_operand b)
bare_source (source.Load p) = source.Load (bare_place p)
bare_source (source.LoadByte p) = source.LoadByte (bare_place p)
bare_source (source.Call c) = source.Call (bare_call c)

abbrev pub bare_over : overs.Over → overs.Over
bare_over o = record { list = bare_name o.list; seq = bare_seq o.seq; seen = bare_name o.seen; rest = bare_name o.rest; keep = bare_assertion o.keep }

-- the tree of a nonterminal with every place set to 0
abbrev pub bare : (n : N) → Tree n → Tree n
bare grammar.Module v = bare_module v
bare grammar.Signatures v = map bare_signature v
bare grammar.Signature v = bare_signature v
bare grammar.NameList v = map bare_name v
bare (grammar.Names w k) v = map bare_name v
bare grammar.Reserving v = v
bare grammar.For v = map bare_bind v
bare (grammar.Bind m) v = bare_bind v
bare grammar.Binds v = map bare_bind v
bare (grammar.MoreBinds k) v = map bare_bind v
bare grammar.BindList v = map bare_bind v
bare grammar.Sort v = v
bare grammar.Predicates v = map bare_predicate v
bare grammar.Predicate v = bare_predicate v
bare (grammar.Cases k) v = map bare_assertion v
bare grammar.Imports v = map bare_import v
bare grammar.Import v = bare_import v
bare grammar.Functions v = map bare_function v
bare grammar.Function v = bare_function v
bare grammar.Export v = v
bare grammar.Locals v = map bare_name v
bare (grammar.Body n) v = (map bare_stmt v.0, 0)
bare (grammar.Statements n) v = map bare_stmt v
bare (grammar.Assertion m) v = bare_assertion v
bare (grammar.Terms k) v = map bare_term v
bare (grammar.Term m) v = (0, bare_term v.1)
bare (grammar.PureTerm m) v = (0, bare_term v.1)
bare (grammar.Block m) v = (0, bare_term v.1)
bare (grammar.Pure n) v = bare_pure v
bare grammar.Rel v = v
bare grammar.Membership v = v
bare (grammar.CodeFact n) v = bare_pure v
bare (grammar.Word n) v = bare_word v
bare (grammar.Sum m n) v = bare_piece v
bare (grammar.Sums k n) v = map bare_part v
bare grammar.Sign v = v
bare (grammar.Part m n) v = bare_piece v
bare (grammar.Seq n) v = bare_seq v
bare (grammar.PlainSeq n) v = (0, bare_seq v.1)
bare (grammar.Arg n) v = bare_arg v
bare (grammar.Args n) v = map bare_arg v
bare (grammar.MoreArgs n) v = map bare_arg v
bare (grammar.HoleArg n) v = bare_arg v
bare (grammar.HoleArgs n) v = map bare_arg v
bare (grammar.MoreHoleArgs n) v = map bare_arg v
bare grammar.Operand v = (0, bare_operand v.1)
bare grammar.Operands v = map bare_operand v
bare grammar.MoreOperands v = map bare_operand v
bare grammar.Test v = bare_test v
bare grammar.Place v = bare_place v
bare grammar.Offset v = v
bare (grammar.Statement n) v = bare_stmt v
bare grammar.Assignment v = bare_stmt v
bare grammar.Store v = bare_stmt v
bare grammar.StoreByte v = bare_stmt v
bare (grammar.If n) v = bare_stmt v
bare (grammar.Else n) v = map bare_stmt v
bare grammar.Join v = bare_option bare_join v
bare (grammar.While n) v = bare_stmt v
bare grammar.Return v = bare_stmt v
bare grammar.HintStatement v = bare_stmt v
bare (grammar.Find n) v = bare_stmt v
bare (grammar.Walk n) v = bare_stmt v
bare grammar.Over v = bare_over v
bare grammar.Source v = bare_source v
bare grammar.Op v = v
bare grammar.Call v = bare_call v
bare grammar.Callee v = (bare_operand v.0, bare_option bare_name v.1)
bare grammar.Using v = map bare_hint v
bare grammar.Hints v = map bare_hint v
bare grammar.Hint v = bare_hint v
bare grammar.PredicateHint v = bare_hint v
bare grammar.At v = bare_option bare_word v
bare grammar.BlockHint v = bare_hint v
bare grammar.CellHint v = bare_hint v
bare grammar.FactHint v = bare_hint v
bare (grammar.Nam m) v = bare_name v
bare (grammar.Num m) v = (0, v.1)
bare (grammar.NameTerm m) v = (0, bare_term v.1)
bare (grammar.StartTerm m) v = (0, bare_term v.1)
bare (grammar.Start m n) v = bare_piece v
bare (grammar.Other m n) v = bare_piece v
bare (grammar.Inner n) v = bare_word v
bare (grammar.Tail n) v = bare_tail v
bare grammar.Arrow v = (v.0, bare_word v.1)

-- a token at place 0
abbrev pub placed : Kind → Token
placed k = record { kind = bare_kind k; at = 0 }

abbrev pub bare_token : Token → Token
bare_token t = placed t.kind

-- the value of a right side with every place set to 0
abbrev pub bare_value : (g : Rhs N Which) → Value Token Tree g → Value Token Tree g
bare_value (token c m) t = bare_token t
bare_value empty v = tt
bare_value (seq a b) v = (bare_value a v.0, bare_value b v.1)
bare_value (alt a b) (inl x) = inl (bare_value a x)
bare_value (alt a b) (inr x) = inr (bare_value b x)
bare_value (ref n) v = bare n v

abbrev pub source_kinds : sources.Source → List Kind
source_kinds (source.Operand a) = operand_kinds a
source_kinds (source.Compute o a b) = operand_kinds a ++ op_kind o ∷ operand_kinds b
source_kinds (source.Load p) = fixed LEFT_BRACKET ∷ (place_kinds p ++ fixed RIGHT_BRACKET ∷ [])
source_kinds (source.LoadByte p) = fixed BYTE ∷ fixed LEFT_BRACKET ∷ (place_kinds p ++ fixed RIGHT_BRACKET ∷ [])
source_kinds (source.Call c) = call_kinds c.target c.via c.args c.hints c.after

-- the class of the sign of a sum or a difference
abbrev pub sign_class : Bool → ℕ
sign_class s = if s then PLUS else MINUS

abbrev pub sign_kind : Bool → Kind
sign_kind s = fixed (sign_class s)

abbrev pub membership_kind : Bool → Kind
membership_kind b = if b then fixed IN else fixed NOTIN

-- the tokens of a nonterminal's tree, as they are printed
abbrev pub spell : (n : N) → Tree n → List Kind
spell grammar.Module v = module_kinds v
spell grammar.Signatures v = all_of signature_kinds v
spell grammar.Signature v = signature_kinds v
spell grammar.NameList v = parted COMMA name_kinds v
spell (grammar.Names w k) v = each_after COMMA name_kinds v
spell grammar.Reserving v = fixed RESERVING ∷ kind.Number v ∷ []
spell grammar.For v = for_kinds v
spell (grammar.Bind m) v = bind_kinds v
spell grammar.Binds v = binds_kinds v
spell (grammar.MoreBinds k) v = each_after COMMA bind_kinds v
spell grammar.BindList v = binds_kinds v
spell grammar.Sort v = sort_kind v ∷ []
spell grammar.Predicates v = all_of predicate_kinds v
spell grammar.Predicate v = predicate_kinds v
spell (grammar.Cases k) v = each_after BAR assertion_kinds v
spell grammar.Imports v = all_of import_kinds v
spell grammar.Import v = import_kinds v
spell grammar.Functions v = all_of function_kinds v
spell grammar.Function v = function_kinds v
spell grammar.Export v = export_kinds v
spell grammar.Locals v = locals_kinds v
spell (grammar.Body n) v = body_kinds v.0
spell (grammar.Statements n) v = joined (map stmt_kinds v)
spell (grammar.Assertion m) v = assertion_kinds v
spell (grammar.Terms k) v = each_after STAR term_kinds v
spell (grammar.Term m) v = term_kinds v.1
spell (grammar.PureTerm m) v = term_kinds v.1
spell (grammar.Block m) v = term_kinds v.1
spell (grammar.Pure n) v = pure_kinds v
spell grammar.Rel v = rel_kind v ∷ []
spell grammar.Membership v = membership_kind v ∷ []
spell (grammar.CodeFact n) v = pure_kinds v
spell (grammar.Word n) v = word_kinds v
spell grammar.Sign v = sign_kind v ∷ []
spell (grammar.Seq n) v = seq_kinds v
spell (grammar.PlainSeq n) v = seq_kinds v.1
spell (grammar.Arg n) v = arg_kinds v
spell (grammar.Args n) v = parted COMMA arg_kinds v
spell (grammar.MoreArgs n) v = each_after COMMA arg_kinds v
spell (grammar.HoleArg n) v = arg_kinds v
spell (grammar.HoleArgs n) v = parted COMMA arg_kinds v
spell (grammar.MoreHoleArgs n) v = each_after COMMA arg_kinds v
spell grammar.Operand v = operand_kinds v.1
spell grammar.Operands v = parted COMMA operand_kinds v
spell grammar.MoreOperands v = each_after COMMA operand_kinds v
spell grammar.Test v = test_kinds v
spell grammar.Place v = place_kinds v
spell grammar.Offset v = offset_kinds v
spell (grammar.Statement n) v = stmt_kinds v
spell grammar.Assignment v = stmt_kinds v
spell grammar.Store v = stmt_kinds v
spell grammar.StoreByte v = stmt_kinds v
spell (grammar.If n) v = stmt_kinds v
spell (grammar.Else n) v = else_kinds v
spell grammar.Join v = join_kinds v
spell (grammar.While n) v = stmt_kinds v
spell grammar.Return v = stmt_kinds v
spell grammar.HintStatement v = stmt_kinds v
spell (grammar.Find n) v = stmt_kinds v
spell (grammar.Walk n) v = stmt_kinds v
spell grammar.Over v = over_kinds v.list v.seq v.seen v.rest v.keep
spell grammar.Source v = source_kinds v
spell grammar.Op v = op_kind v ∷ []
spell grammar.Call v = call_kinds v.target v.via v.args v.hints v.after
spell grammar.Callee v = operand_kinds v.0 ++ via_kinds v.1
spell grammar.Using v = using_kinds v
spell grammar.Hints v = each_after COMMA hint_kinds v
spell grammar.Hint v = hint_kinds v
spell grammar.PredicateHint v = hint_kinds v
spell grammar.At v = at_kinds v
spell grammar.BlockHint v = hint_kinds v
spell grammar.CellHint v = hint_kinds v
spell grammar.FactHint v = hint_kinds v
spell (grammar.Nam m) v = kind.Name v ∷ []
spell (grammar.Num m) v = kind.Number v.1 ∷ []
spell _ v = []

-- the token where the grammar has one of class c: a name or a number, or the fixed word
abbrev pub canonical : ℕ → Kind → Kind
canonical c k = if nat_lt c 3 then k else fixed c

-- the tokens of the value of a right side, part by part
abbrev pub spell_value : (g : Rhs N Which) → Value Token Tree g → List Kind
spell_value (token c m) t = canonical c t.kind ∷ []
spell_value empty v = []
spell_value (seq a b) v = spell_value a v.0 ++ spell_value b v.1
spell_value (alt a b) (inl x) = spell_value a x
spell_value (alt a b) (inr x) = spell_value b x
spell_value (ref n) v = spell n v
