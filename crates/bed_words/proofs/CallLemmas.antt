-- The words after a command's first word: its options, and then its plain words.
use Rattle.std.proofs.Common.{◌≡◌, ℕ, ◌+◌, ◌-◌, ◌<◌, ◌≤◌, ◌^◌, true, false, if◌then◌else◌, List, [], length, take, drop, map, sym, ap, ◌∙◌, subst, arith, Ok, Err, length-drop}
use Rattle.std.specs.Prelude.{Result}
use Rattle.std.proofs.lemmas.List.{take-map, drop-map, length-map}
use Rattle.bed_words.specs.declared.verb.Verb.{Verb}
use Rattle.bed_words.specs.declared.command.Command.{Command}
use Rattle.bed_words.specs.declared.command.CommandError.{CommandError}
use Rattle.bed_words.specs.declared.command.CommandError.TheVariants as error
use Rattle.bed_words.specs.Reading.{lacks, read_plain, read_files, read_options, later, Gives, wrong_word, moved}
use Rattle.bed_words.proofs.ReadingLemmas.{read, within, plain-within}
use Rattle.bed_words.proofs.LoopLemmas.{rest_is}

later-moved : (r : Result Command ℕ) (n : ℕ) (e : CommandError) → Gives r (Err e) → Gives (later n r) (Err (moved e n))
later-moved r n (error.Usage i) g = ap (later n) g
later-moved r n (error.Limit which) g = g
later-moved r n error.Memory g = g

gives-same : (r q : Result Command ℕ) (e : CommandError) → q ≡ r → Gives r (Err e) → Gives q (Err e)
gives-same r q e same g = subst (λ z. Gives z (Err e)) (sym same) g

-- a wrong word among words is one of them, or comes right after them
pub gives-within : (v : Verb) (ws : List (List ℕ)) (e : CommandError) → Gives (read_options v [] ws) (Err e) → wrong_word e ≤ length ws
gives-within v ws (error.Usage i) g = within v [] ws (read v [] ws) i g
gives-within v ws (error.Limit which) g = absurd g
gives-within v ws error.Memory g = omega arith

-- a wrong word after the first one
pub rest-small : {X : Type 0} (f : X → List ℕ) (v : Verb) (xs : List X) (e : CommandError)
    → Gives (read_options v [] (map f (take (length xs - 1) (drop 1 xs)))) (Err e) → 1 ≤ length xs → length xs < 2 ^ 32 → wrong_word e + 1 < 2 ^ 32
rest-small f v xs e g some big =
    let small : wrong_word e ≤ length (map f (take (length xs - 1) (drop 1 xs))) = gives-within v (map f (take (length xs - 1) (drop 1 xs))) e g in
    let as_many : length (map f (take (length xs - 1) (drop 1 xs))) ≡ length xs - 1 =
    length-map (take (length xs - 1) (drop 1 xs)) f ∙ ap length (rest_is xs 1) ∙ length-drop 1 xs in
    below (wrong_word e) (length (map f (take (length xs - 1) (drop 1 xs)))) (length xs) small as_many some big
  where
    below : (w p x : ℕ) → w ≤ p → p ≡ x - 1 → 1 ≤ x → x < 2 ^ 32 → w + 1 < 2 ^ 32
    below w p x a b c d = omega arith

plain-small : (v : Verb) (o ws : List (List ℕ)) (e : CommandError) → Gives (read_plain v o ws) (Err e) → wrong_word e ≤ length ws
plain-small v o ws (error.Usage i) g = plain-within v o ws i g
plain-small v o ws (error.Limit which) g = absurd g
plain-small v o ws error.Memory g = omega arith

module _ {X : Type 0} (f : X → List ℕ) (v : Verb) (xs : List X) (n : ℕ)
    (counted : read_options v [] (map f xs) ≡ later n (read_files v (take n (map f xs)) (drop n (map f xs)))) where
  abbrev Options : List (List ℕ)
  Options = map f (take n xs)

  abbrev Plain : List (List ℕ)
  Plain = map f (take (length xs - n) (drop n xs))

  split : read_options v [] (map f xs) ≡ later n (read_files v Options Plain)
  split =
      counted
      ∙ ap (λ o. later n (read_files v o (drop n (map f xs)))) (take-map f n xs)
      ∙ ap (λ ws. later n (read_files v Options ws)) (drop-map f n xs ∙ ap (map f) (sym (rest_is xs n)))

  pub missing : lacks v Options ≡ true → read_options v [] (map f xs) ≡ Err n
  missing l = split ∙ ap (λ b. later n (if b then Err 0 else read_plain v Options Plain)) l ∙ ap (λ k. Err k) (same n)
    where
      same : (n : ℕ) → 0 + n ≡ n
      same n = omega arith

  module _ (has : lacks v Options ≡ false) where
    plainly : read_options v [] (map f xs) ≡ later n (read_plain v Options Plain)
    plainly = split ∙ ap (λ b. later n (if b then Err 0 else read_plain v Options Plain)) has

    pub gives-command : (c : Command) → read_plain v Options Plain ≡ Ok c → read_options v [] (map f xs) ≡ Ok c
    gives-command c g = plainly ∙ ap (later n) g

    pub gives-refusal : (e : CommandError) → Gives (read_plain v Options Plain) (Err e) → Gives (read_options v [] (map f xs)) (Err (moved e n))
    gives-refusal e g =
        gives-same (later n (read_plain v Options Plain)) (read_options v [] (map f xs)) (moved e n) plainly (later-moved (read_plain v Options Plain) n e g)

    pub refusal-small : (e : CommandError) → Gives (read_plain v Options Plain) (Err e) → n ≤ length xs → length xs < 2 ^ 32
        → wrong_word e + n < 2 ^ 32
    refusal-small e g l big =
        let small : wrong_word e ≤ length Plain = plain-small v Options Plain e g in
        let as_many : length Plain ≡ length xs - n = length-map (take (length xs - n) (drop n xs)) f ∙ ap length (rest_is xs n) ∙ length-drop n xs in
        below (wrong_word e) (length Plain) n (length xs) small as_many l big
      where
        below : (w p n x : ℕ) → w ≤ p → p ≡ x - n → n ≤ x → x < 2 ^ 32 → w + n < 2 ^ 32
        below w p n x a b c d = omega arith
