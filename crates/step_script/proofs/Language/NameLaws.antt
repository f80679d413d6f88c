-- Words that are names of a table.
use Rattle.std.proofs.Common.{sym, ap, ◌≡◌, ℕ, List, [], ◌∷◌, None, refl, ◌∙◌}
use Rattle.std.specs.Prelude.{codes, Some}
use Rattle.ring_words.specs.declared.page.Role.{Role}
use Rattle.ring_words.specs.declared.page.Role.TheVariants.{Server, Client}
use Rattle.script_words.specs.WordsLeft.{IsNotFirst}
use Rattle.step_script.specs.declared.read.forms.Act.TheVariants.{Begin, Step, Finish}
use Rattle.step_script.specs.declared.read.forms.CallForm.TheVariants.{Write, Read}
use Rattle.step_script.specs.declared.read.forms.Verb.TheVariants.{Makes, Does}
use Rattle.step_script.specs.Language.Tables.{meaning_first, verb_first}

-- the first of these words isn't a name of the table
abbrev pub Others : {A : Type 0} → List (List ℕ × A) → List (List ℕ) → Type 0
Others [] words = Unit {0}
Others (row ∷ table) words = IsNotFirst row.0 words × Others table words

-- a name that isn't the first of these words is skipped
pub past_name : {A : Type 0} (name : List ℕ) (x : A) (table : List (List ℕ × A)) (words : List (List ℕ)) → IsNotFirst name words → meaning_first table words ≡ meaning_first ((name, x) ∷ table) words
past_name name x table [] other = refl
past_name name x table (word ∷ more) other = rw other refl

-- words of which the first isn't a name of the table mean nothing there
pub unnamed : {A : Type 0} (table : List (List ℕ × A)) (words : List (List ℕ)) → Others table words → None ≡ meaning_first table words
unnamed [] [] others = refl
unnamed [] (word ∷ more) others = refl
unnamed (row ∷ table) words others = unnamed table words others.1 ∙ past_name row.0 row.1 table words others.0

-- the words that scripts have most, each as the first
pub first_write : (who : Role) (words : List (List ℕ)) (more : List (List ℕ)) → words ≡ codes "write" ∷ more → Some (Makes Write, more) ≡ verb_first who words
first_write Server words more is = sym (ap (λ (l : List (List ℕ)). verb_first Server l) is)
first_write Client words more is = sym (ap (λ (l : List (List ℕ)). verb_first Client l) is)

pub first_read : (who : Role) (words : List (List ℕ)) (more : List (List ℕ)) → words ≡ codes "read" ∷ more → Some (Makes Read, more) ≡ verb_first who words
first_read Server words more is = sym (ap (λ (l : List (List ℕ)). verb_first Server l) is)
first_read Client words more is = sym (ap (λ (l : List (List ℕ)). verb_first Client l) is)

pub first_begin : (who : Role) (words : List (List ℕ)) (more : List (List ℕ)) → words ≡ codes "begin" ∷ more → Some (Does Begin, more) ≡ verb_first who words
first_begin Server words more is = sym (ap (λ (l : List (List ℕ)). verb_first Server l) is)
first_begin Client words more is = sym (ap (λ (l : List (List ℕ)). verb_first Client l) is)

pub first_step : (who : Role) (words : List (List ℕ)) (more : List (List ℕ)) → words ≡ codes "step" ∷ more → Some (Does Step, more) ≡ verb_first who words
first_step Server words more is = sym (ap (λ (l : List (List ℕ)). verb_first Server l) is)
first_step Client words more is = sym (ap (λ (l : List (List ℕ)). verb_first Client l) is)

pub first_finish : (who : Role) (words : List (List ℕ)) (more : List (List ℕ)) → words ≡ codes "finish" ∷ more → Some (Does Finish, more) ≡ verb_first who words
first_finish Server words more is = sym (ap (λ (l : List (List ℕ)). verb_first Server l) is)
first_finish Client words more is = sym (ap (λ (l : List (List ℕ)). verb_first Client l) is)

pub ruleset frequent = (first_write, first_read, first_begin, first_step, first_finish)
