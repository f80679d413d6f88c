-- The word that a line begins with.
use Rattle.std.proofs.Common.{◌≡◌, ℕ, Bool, true, false, cond, ◌⊎◌, inl, inr, Some, List, [], ◌∷◌, ◌++◌, length, take, drop, refl, ap, sym, subst, ◌∙◌, arith, append-nil, length-drop}
use Rattle.std.specs.Prelude.{bytes_eq}
use Rattle.std.specs.List.{slice_split, onto_first, list_any}
use Rattle.std.proofs.Math.Seq.{take-length, take-append_seam, drop-append_seam}
use Rattle.std.proofs.lemmas.Bool.{false≢true, false_from_ne_true, or_parts}
use Rattle.std.proofs.lemmas.List.{take-append-drop}
use Rattle.std.proofs.lemmas.List.Splits.{length-slice_split}
use Rattle.std.proofs.lemmas.Slice.Eq.{bytes_eq-Decides}
use denote.Ref.{Bor}
use Rattle.script_words.specs.declared.words.WordsOfLine.{WordsOfLine}
use Rattle.script_words.specs.Words.{words_of}
use Rattle.script_words.specs.WordsLeft.{IsNotFirst, left_of, words_left}

-- a word is a piece of its own before a separator
word_before : (p : ℕ → Bool) (word : List ℕ) (separator : ℕ) (rest : List ℕ) → list_any p word ≡ false → p separator ≡ true → slice_split p (word ++ separator ∷ rest) ≡ word ∷ slice_split p rest
word_before p [] separator rest none is = ap (λ b. cond b ([] ∷ slice_split p rest) (onto_first separator (slice_split p rest))) is
word_before p (x ∷ word) separator rest none is =
    let parts : List (List ℕ) = slice_split p (word ++ separator ∷ rest) in
    let both = or_parts (p x) (list_any p word) none in
    ap (λ b. cond b ([] ∷ parts) (onto_first x parts)) both.0 ∙ ap (onto_first x) (word_before p word separator rest both.1 is)

-- and at the end
word_alone : (p : ℕ → Bool) (word : List ℕ) → list_any p word ≡ false → slice_split p word ≡ word ∷ []
word_alone p [] none = refl
word_alone p (x ∷ word) none =
    let both = or_parts (p x) (list_any p word) none in
    ap (λ b. cond b ([] ∷ slice_split p word) (onto_first x (slice_split p word))) both.0 ∙ ap (onto_first x) (word_alone p word both.1)

-- the bytes are this word, or it stands before a separator
abbrev Begins : (ℕ → Bool) → List ℕ → List ℕ → Type 0
Begins p word bytes = (bytes ≡ word) ⊎ ((separator : ℕ) × (rest : List ℕ) × (p separator ≡ true) × (bytes ≡ word ++ separator ∷ rest))

longer : (p : ℕ → Bool) (x : ℕ) (word bytes : List ℕ) → Begins p word bytes → Begins p (x ∷ word) (x ∷ bytes)
longer p x word bytes (inl is) = inl (ap (λ (l : List ℕ). x ∷ l) is)
longer p x word bytes (inr (separator, rest, at, is)) = inr (separator, rest, at, ap (λ (l : List ℕ). x ∷ l) is)

first_byte : (a b : ℕ) (more others : List ℕ) → ◌≡◌ {A = List ℕ} (a ∷ more) (b ∷ others) → a ≡ b
first_byte a b more others is = cc

same_first : (a b : List ℕ) (more others : List (List ℕ)) → ◌≡◌ {A = List (List ℕ)} (a ∷ more) (b ∷ others) → a ≡ b
same_first a b more others is = cc

some_piece : (p : ℕ → Bool) (bytes : List ℕ) → slice_split p bytes ≡ [] → ⊥
some_piece p bytes is = omega (arith, length-slice_split p bytes, ap (length {A = List ℕ}) is)

put_before : (p : ℕ → Bool) (x : ℕ) (bytes word : List ℕ) (more parts : List (List ℕ)) → ((first : List ℕ) (others : List (List ℕ)) → slice_split p bytes ≡ first ∷ others → Begins p first bytes) → slice_split p bytes ≡ parts →
    onto_first x parts ≡ word ∷ more → Begins p word (x ∷ bytes)
put_before p x bytes word more [] begins is joined = absurd (some_piece p bytes is)
put_before p x bytes word more (first ∷ others) begins is joined =
    subst (λ (w : List ℕ). Begins p w (x ∷ bytes)) (same_first (x ∷ first) word others more joined) (longer p x first bytes (begins first others is))

-- the first piece stands at the front
begins : (p : ℕ → Bool) (bytes word : List ℕ) (more : List (List ℕ)) → slice_split p bytes ≡ word ∷ more → Begins p word bytes
begins p [] word more is = inl (same_first [] word [] more is)
begins p (x ∷ bytes) word more is =
    elim (p x) as (λ b. p x ≡ b → cond b ([] ∷ slice_split p bytes) (onto_first x (slice_split p bytes)) ≡ word ∷ more → Begins p word (x ∷ bytes)) [
      | true ↦ λ at cut. subst (λ (w : List ℕ). Begins p w (x ∷ bytes)) (same_first [] word (slice_split p bytes) more cut) (inr (x, bytes, at, refl))
      | false ↦ λ at cut. put_before p x bytes word more (slice_split p bytes) (λ first others. begins p bytes first others) refl cut
    ] refl is

not_first : (p : ℕ → Bool) (bytes word : List ℕ) → ¬ Begins p word bytes → (parts : List (List ℕ)) → slice_split p bytes ≡ parts → IsNotFirst word parts
not_first p bytes word other [] is = tt
not_first p bytes word other (first ∷ more) is =
    false_from_ne_true (bytes_eq first word) (λ yes. other (begins p bytes word more (is ∙ ap (λ (w : List ℕ). w ∷ more) ((bytes_eq-Decides first word).0 yes))))

fronted : (p : ℕ → Bool) (bytes word : List ℕ) → Begins p word bytes → take (length word) bytes ≡ word
fronted p bytes word (inl is) = ap (take (length word)) is ∙ take-length word
fronted p bytes word (inr (separator, rest, at, is)) = ap (take (length word)) is ∙ take-append_seam word (separator ∷ rest)

-- bytes with another front don't begin with the word
pub other_front : (p : ℕ → Bool) (bytes word : List ℕ) → bytes_eq (take (length word) bytes) word ≡ false → IsNotFirst word (slice_split p bytes)
other_front p bytes word other =
    not_first p bytes word (λ there. false≢true (sym other ∙ (bytes_eq-Decides (take (length word) bytes) word).1 (fronted p bytes word there))) (slice_split p bytes) refl

separated : (p : ℕ → Bool) (bytes word rest : List ℕ) (x : ℕ) → Begins p word bytes → drop (length word) bytes ≡ x ∷ rest → p x ≡ true
separated p bytes word rest x (inl is) behind = absurd (omega (arith, length-drop (length word) bytes, ap (length {A = ℕ}) is, ap (length {A = ℕ}) behind))
separated p bytes word rest x (inr (separator, rest', at, is)) behind =
    let same : separator ≡ x = first_byte separator x rest' rest (sym (drop-append_seam word (separator ∷ rest')) ∙ ap (drop (length word)) (sym is) ∙ behind) in
    subst (λ (b : ℕ). p b ≡ true) same at

-- nor do bytes with that front and no separator after it
pub goes_on : (p : ℕ → Bool) (bytes word rest : List ℕ) (x : ℕ) → drop (length word) bytes ≡ x ∷ rest → p x ≡ false → IsNotFirst word (slice_split p bytes)
goes_on p bytes word rest x behind other =
    not_first p bytes word (λ there. false≢true (sym other ∙ separated p bytes word rest x there behind)) (slice_split p bytes) refl

rebuilt : (bytes word behind : List ℕ) → bytes_eq (take (length word) bytes) word ≡ true → behind ≡ drop (length word) bytes → word ++ behind ≡ bytes
rebuilt bytes word behind same is =
    ap (λ (l : List ℕ). l ++ behind) (sym ((bytes_eq-Decides (take (length word) bytes) word).0 same)) ∙ ap (λ (l : List ℕ). take (length word) bytes ++ l) is ∙ take-append-drop (length word) bytes

-- a front with nothing after it is the only word
pub only_word : (p : ℕ → Bool) (bytes word behind : List ℕ) → list_any p word ≡ false → bytes_eq (take (length word) bytes) word ≡ true → behind ≡ drop (length word) bytes → behind ≡ [] → slice_split p bytes ≡ word ∷ []
only_word p bytes word behind none same is end =
    ap (slice_split p) (sym (rebuilt bytes word behind same is) ∙ ap (λ (l : List ℕ). word ++ l) end ∙ append-nil word) ∙ word_alone p word none

-- a front with a separator after it is the first word
pub first_word : (p : ℕ → Bool) (bytes word behind rest : List ℕ) (separator : ℕ) → list_any p word ≡ false → bytes_eq (take (length word) bytes) word ≡ true → behind ≡ drop (length word) bytes → behind ≡ separator ∷ rest → p separator ≡ true →
    slice_split p bytes ≡ word ∷ slice_split p rest
first_word p bytes word behind rest separator none same is cut at =
    ap (slice_split p) (sym (rebuilt bytes word behind same is) ∙ ap (λ (l : List ℕ). word ++ l) cut) ∙ word_before p word separator rest none at

-- the words of what is left of a line
pub left_behind : (words : WordsOfLine) (rest : Bor (List ℕ)) → words.rest ≡ Some rest → words_left words ≡ words_of rest.now
left_behind words rest is = ap left_of is

pub no_byte : (bytes : List ℕ) → length bytes ≡ 0 → bytes ≡ []
no_byte [] is = refl
no_byte (x ∷ bytes) is = absurd (omega (arith, is))
