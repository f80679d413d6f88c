-- A side that serves keeps what is seen of the messages that it has read, and owes the rest.
use Rattle.std.proofs.Common.{◌≡◌, ℕ, ◌≤◌, List, ◌++◌, length, drop, refl, ap, sym, ◌∙◌, subst, Option, Some, None}
use Rattle.std.proofs.lemmas.List.{drop-append-le}
use Rattle.std.specs.Prelude.{true, false, IsSome, is_some}
use Rattle.service_gate.specs.Triple.{Triple, Feeds}
use Rattle.qrexec_data.specs.Answering.{AnsweringState, FeedsOn}

-- what a service was fed, if a part of its outputs stands in messages
pub fed_on : {S : Type 0} (owes : S → List ℕ → Triple) (bytes : List ℕ) (old inside : AnsweringState S) (service' : S) (out out' err err' : List ℕ) (ol el : ℕ)
    → inside ≡ old → inside.out ≡ drop ol out → inside.err ≡ drop el err → ol ≤ length out → el ≤ length err → Feeds (owes inside.service) (owes service') bytes out out' err err'
    → FeedsOn owes bytes old (record inside { service = service'; out = drop ol out'; err = drop el err' })
fed_on {S} owes bytes old inside service' out out' err err' ol el same out_is err_is out_within err_within f =
    let P : AnsweringState S → Type 0 = λ x. FeedsOn owes bytes x (record inside { service = service'; out = drop ol out'; err = drop el err' }) in
    subst P same (record {
      feeds = record {
        stdout = f.stdout;
        stderr = f.stderr;
        out_grows = ap (drop ol) f.out_grows ∙ drop-append-le ol out f.stdout out_within ∙ ap (λ x. x ++ f.stdout) (sym out_is);
        err_grows = ap (drop el) f.err_grows ∙ drop-append-le el err f.stderr err_within ∙ ap (λ x. x ++ f.stderr) (sym err_is);
        owed = f.owed;
      };
      rest = refl;
    })

pub some_if : {A : Type 0} (o : Option A) → is_some o ≡ true → IsSome o
some_if None is = cc
some_if (Some x) is = refl

pub none_if : {A : Type 0} (o : Option A) → is_some o ≡ false → o ≡ None
none_if None is = refl
none_if (Some x) is = cc
