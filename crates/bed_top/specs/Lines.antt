-- The printed lines.
use Rattle.std.specs.Prelude.{ℕ, List, ◌++◌, codes}
use Rattle.std.specs.Fmt.{decimal}
use Rattle.bed_lang.specs.declared.limit.Which.{Which}
use Rattle.bed_lang.specs.declared.limit.Which.TheVariants as which
use Rattle.bed_top.specs.declared.line.Line.{Line}
use Rattle.bed_top.specs.declared.line.Line.TheVariants as line
use Rattle.bed_top.specs.declared.status.SyntaxKind.{SyntaxKind}
use Rattle.bed_top.specs.declared.status.SyntaxKind.TheVariants as syntax
use Rattle.bed_top.specs.declared.status.NameKind.{NameKind}
use Rattle.bed_top.specs.declared.status.NameKind.TheVariants as rule

-- a label, a text and the end of the line
abbrev pub labelled : List ℕ → List ℕ → List ℕ
labelled label text = label ++ (text ++ codes "\n")

-- the counted quantity and its limit
abbrev pub limit_text : Which → List ℕ
limit_text which.Modules = codes "modules 64"
limit_text which.Imports = codes "imports 1024"
limit_text which.Text = codes "text 1048576"
limit_text which.Functions = codes "functions 1024"
limit_text which.Locals = codes "locals 60"
limit_text which.Params = codes "params 60"
limit_text which.Reserve = codes "reserve 4096"
limit_text which.Nesting = codes "nesting 64"
limit_text which.Cases = codes "cases 16"
limit_text which.Terms = codes "terms 256"
limit_text which.Name = codes "name 255"
limit_text which.Conditions = codes "conditions 16384"
limit_text which.Proof = codes "proof 16777216"
limit_text which.Image = codes "image 17825792"
limit_text which.Steps = codes "steps 10000000"
limit_text which.Trace = codes "trace 1024"
limit_text which.Words = codes "words 1048576"

abbrev pub syntax_text : SyntaxKind → List ℕ
syntax_text syntax.Byte = codes "byte"
syntax_text syntax.Token = codes "token"
syntax_text syntax.Number = codes "number"

abbrev pub rule_text : NameKind → List ℕ
rule_text rule.Unknown = codes "unknown"
rule_text rule.Twice = codes "twice"
rule_text rule.Sort = codes "sort"
rule_text rule.Arity = codes "arity"
rule_text rule.FallsOff = codes "falls off"
rule_text rule.MissingJoin = codes "missing join"
rule_text rule.Dead = codes "dead"
rule_text (rule.StackRoom needs has) = codes "stack room needs " ++ (decimal needs ++ (codes " has " ++ decimal has))

-- FILE L:C and what is wrong there
abbrev pub place_text : List ℕ → ℕ → ℕ → List ℕ → List ℕ
place_text file line column kind = file ++ (codes " " ++ (decimal line ++ (codes ":" ++ (decimal column ++ (codes " " ++ kind)))))

-- each function is one `return`, which has one condition
abbrev pub linked_line : ℕ → ℕ → ℕ → List ℕ
linked_line modules functions bytes =
    codes "linked " ++ (decimal modules ++ (codes " modules, " ++ (decimal functions ++ (codes " functions, " ++ (decimal functions
    ++ (codes " conditions, " ++ (decimal bytes ++ codes " bytes\n")))))))

abbrev pub usage_line : ℕ → List ℕ
usage_line word = labelled (codes "usage: word ") (decimal word)

abbrev pub syntax_line : List ℕ → ℕ → ℕ → SyntaxKind → List ℕ
syntax_line file at column kind = labelled (codes "syntax: ") (place_text file at column (syntax_text kind))

abbrev pub names_line : List ℕ → ℕ → ℕ → NameKind → List ℕ
names_line file at column kind = labelled (codes "names: ") (place_text file at column (rule_text kind))

abbrev pub limit_line : Which → List ℕ
limit_line which = labelled (codes "limit: ") (limit_text which)

abbrev pub condition_line : ℕ → List ℕ
condition_line k = labelled (codes "no: condition ") (decimal k)

abbrev pub not_built_line : List ℕ → List ℕ
not_built_line what = labelled (codes "not built: ") what

abbrev pub read_fault_line : List ℕ → List ℕ
read_fault_line file = labelled (codes "read fault: ") file

abbrev pub write_fault_line : List ℕ → List ℕ
write_fault_line file = labelled (codes "write fault: ") file

abbrev pub memory_line : List ℕ
memory_line = codes "want of memory\n"

-- the bytes of a line
abbrev pub text_of : Line → List ℕ
text_of (line.Usage word) = usage_line word
text_of (line.Syntax file at column kind) = syntax_line file at column kind
text_of (line.Names file at column kind) = names_line file at column kind
text_of (line.Limit which) = limit_line which
text_of (line.Condition number) = condition_line number
text_of (line.NotBuilt what) = not_built_line what
text_of (line.ReadFault file) = read_fault_line file
text_of (line.WriteFault file) = write_fault_line file
text_of (line.Linked modules functions bytes) = linked_line modules functions bytes
