-- The graph of the difference constraints of a state: a node for each form, an edge for each leg of a chain.
use Rattle.std.specs.Prelude.{ℕ, ◌+◌, ◌-◌, pos, ◌-ℤ◌, if◌then◌else◌, List, [], ◌∷◌, ◌++◌, map, Option, Some, None}
use Rattle.bed_lang.specs.declared.form.Form.{Form}
use Rattle.bed_lang.specs.declared.word.Word.{Word, Number}
use Rattle.bed_lang.specs.declared.logic.Pure.{Pure}
use Rattle.bed_lang.specs.declared.logic.Pure.TheVariants.{Equal, Unequal, Less, AtMost}
use Rattle.bed_lang.specs.Numbers.{wrap}
use Rattle.bed_lang.specs.Forms.{word_form, same_form}
use Rattle.bed_lang.specs.SameFacts.{is_constant}
use Rattle.bed_deriv.specs.declared.derivation.Edge.{Edge}
use Rattle.bed_deriv.specs.declared.derivation.Edge.TheVariants as edge
use Rattle.bed_deriv.specs.declared.state.SymState.{SymState}
use Rattle.bed_deriv.specs.Fresh.{known_word}
use Rattle.bed_forms.specs.Rebuilt.{rebuilt_word}
use Rattle.bed_deriv.specs.Chains.{Leg, leg, one_more, one_less, forth, back, exact_forth, exact_back, from_one_more, to_one_more, to_one_less, from_one_less}
use Rattle.bed_diff.specs.declared.constraint.Edge3.{Edge3}
use Rattle.bed_plain.specs.Chained.{has_form}

-- the words whose forms are those of a comparison, and of facts
abbrev pub words_of : Pure → List Word
words_of (Equal a b) = a ∷ b ∷ []
words_of (Unequal a b) = a ∷ b ∷ []
words_of (Less a b) = a ∷ b ∷ one_more a ∷ one_less b ∷ []
words_of (AtMost a b) = a ∷ b ∷ []
words_of _ = []

abbrev pub all_words : List Pure → List Word
all_words [] = Number 0 ∷ Number 4294967295 ∷ []
all_words (p ∷ ps) = words_of p ++ all_words ps

-- the two sides of a goal, and then those of the facts
abbrev pub goal_words : Word → Word → List Pure → List Word
goal_words a b ps = a ∷ b ∷ all_words ps

-- ---- nodes: one word for each form

abbrev pub forms_of : List Word → List Form
forms_of ws = map word_form ws

abbrev pub with_node : Word → List Word → List Word
with_node w ws = if has_form (word_form w) (forms_of ws) then ws else ws ++ w ∷ []

abbrev pub with_nodes : List Word → List Word → List Word
with_nodes [] ws = ws
with_nodes (u ∷ us) ws = with_node u (with_nodes us ws)

abbrev pub nodes_of : List Word → List Word
nodes_of us = with_nodes us []

-- the place of a form among those of the nodes, the first of which has place n
abbrev pub place_from : ℕ → Form → List Form → ℕ
place_from n f [] = n
place_from n f (g ∷ gs) = if same_form f g then n else place_from (n + 1) f gs

abbrev pub place_of : Form → List Form → ℕ
place_of f fs = place_from 0 f fs

-- ---- edges

-- an edge as a chain has it, with its leg
pub record Link : Type 0 where
  pub edge : Edge
  pub leg : Leg

abbrev pub link : Edge → Leg → Link
link e l = record { edge = e; leg = l }

abbrev pub link_if : Edge → Option Leg → List Link
link_if e None = []
link_if e (Some l) = link e l ∷ []

-- those of fact i
abbrev pub fact_links : ℕ → Pure → List Link
fact_links i p =
    link_if (edge.F i) (forth p) ++ (link_if (edge.G i) (back p) ++ (link_if (edge.X i) (exact_forth p) ++ (link_if (edge.Y i) (exact_back p)
    ++ (link_if (edge.P i) (from_one_more p) ++ (link_if (edge.Q i) (to_one_more p) ++ (link_if (edge.R i) (to_one_less p)
    ++ link_if (edge.S i) (from_one_less p)))))))

abbrev pub facts_links : ℕ → List Pure → List Link
facts_links i [] = []
facts_links i (p ∷ ps) = fact_links i p ++ facts_links (i + 1) ps

-- between a node and 4294967295, and 0; for a constant also the exact distance from 0, both ways
abbrev pub number_leg : Form → ℕ → Leg
number_leg f n = record { from = f; to = word_form (Number n); up = f.constant - wrap n; down = wrap n - f.constant }

abbrev pub top_leg : Form → Leg
top_leg f = record { from = f; to = word_form (Number 4294967295); up = 0; down = 0 }

abbrev pub constant_links : Form → List Link
constant_links f =
    if is_constant f then link (edge.K 0) (number_leg f 0) ∷ link (edge.K f.constant) (number_leg (word_form (Number 0)) f.constant) ∷ [] else []

-- the word that the edge from 0 to a node names: the node's own one where it is known, else the same one written anew, of which no
-- variable is left that its form hasn't
abbrev pub named_word : ℕ → Word → Word
named_word next w = if known_word next w then w else rebuilt_word w

abbrev pub least_links : ℕ → Word → List Link
least_links next w = if known_word next (named_word next w) then link (edge.Z (named_word next w)) (leg (Number 0) (named_word next w) 0 0) ∷ [] else []

abbrev pub node_links : ℕ → Word → List Link
node_links next w = least_links next w ++ link edge.H (top_leg (word_form w)) ∷ constant_links (word_form w)

abbrev pub nodes_links : ℕ → List Word → List Link
nodes_links next [] = []
nodes_links next (w ∷ ws) = node_links next w ++ nodes_links next ws

abbrev pub all_links : SymState → List Word → List Link
all_links s ws = facts_links 1 s.facts ++ nodes_links s.next ws

-- an edge between the places of its leg's ends
abbrev pub edge_between : List Form → Leg → Edge3
edge_between fs l = record { from = place_of l.from fs; to = place_of l.to fs; weight = pos l.up -ℤ pos l.down }

abbrev pub edges_of : List Form → List Link → List Edge3
edges_of fs xs = map (λ (x : Link). edge_between fs x.leg) xs

abbrev pub labels_of : List Link → List Edge
labels_of xs = map (λ (x : Link). x.edge) xs
