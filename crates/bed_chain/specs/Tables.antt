-- Nodes and edges as the code has them.
use Rattle.std.specs.Prelude.{◌≡◌, ℕ, true, ◌++◌, map, slice_get, Some, List}
use Rattle.bed_lang.specs.declared.form.Form.{Form}
use Rattle.bed_lang.specs.declared.word.Word.{Word}
use Rattle.bed_lang.specs.Forms.{word_form}
use Rattle.bed_plain.specs.Chained.{has_form}
use Rattle.bed_chain.specs.declared.table.Table.{Table}
use Rattle.bed_chain.specs.declared.links.Links.{Links}
use Rattle.bed_chain.specs.Graph.{Link, edges_of, labels_of, place_of}

-- words with their forms beside them
abbrev pub IsTable : Table → Type 0
IsTable t = t.forms ≡ map word_form t.words

-- each word stands at the place of its form
abbrev pub AreNodes : List Word → Type 0
AreNodes ws = (k : ℕ) (w : Word) → slice_get ws k ≡ Some w → place_of (word_form w) (map word_form ws) ≡ k

-- these links come behind others, between nodes of these forms
pub record Added (forms : List Form) (links : List Link) (old new : Links) : Type 0 where
  pub edges : new.edges ≡ old.edges ++ edges_of forms links
  pub labels : new.labels ≡ old.labels ++ labels_of links

-- the form of each of these words is that of a node
abbrev pub Covers : List Word → List Word → Type 0
Covers ws us = (f : Form) → has_form f (map word_form us) ≡ true → has_form f (map word_form ws) ≡ true
