-- One call more in the sums.
use Rattle.std.proofs.Common.{◌≡◌, ℕ, ◌+◌, List, [], ◌∷◌, ◌++◌, length, refl, ap, sym, ◌∙◌, append_assoc, length-append, arith, subst, Option, Some, None, ◌⊎◌, inl, inr}
use Rattle.std.specs.Prelude.{pos, ◌+ℤ◌}
use Rattle.std.specs.List.{fold}
use Rattle.std.proofs.lemmas.List.{append-nil}
use Rattle.scenario_file.specs.declared.scenario.CallPlan.{CallPlan}
use Rattle.run_laws.specs.declared.report.CallLine.{CallLine}
use Rattle.run_report.specs.Summary.{DoneCall, Totals, totals, counted, done_of, done_calls}
use Rattle.run_report.specs.Summing.{IsSumming}

-- a fold goes on after the first elements
fold_append : {A B : Type 0} (f : B → A → B) (b : B) (xs ys : List A) → fold f b (xs ++ ys) ≡ fold f (fold f b xs) ys
fold_append f b [] ys = refl
fold_append f b (x ∷ xs) ys = fold_append f (f b x) xs ys

-- a call that is done, after the others
totals_more : (dones : List DoneCall) (d : DoneCall) → counted (Some d) (totals dones) ≡ totals (dones ++ d ∷ [])
totals_more dones d =
    rw (length-append dones (d ∷ [])) (rw (fold_append (λ a (x : DoneCall). a + x.stdin) 0 dones (d ∷ []))
    (rw (fold_append (λ a (x : DoneCall). a + x.stdout) 0 dones (d ∷ [])) (rw (fold_append (λ a (x : DoneCall). a + x.stderr) 0 dones (d ∷ []))
    (rw (fold_append (λ sum (x : DoneCall). sum +ℤ x.code) (pos 0) dones (d ∷ [])) refl))))

-- the calls that are left, with the next one if it is done
abbrev next_done : Option DoneCall → List DoneCall → List DoneCall
next_done None dones = dones
next_done (Some d) dones = d ∷ dones

-- so the next call stands at the front of what is left
calls_on : (call : CallPlan) (calls : List CallPlan) (line : CallLine) (lines : List CallLine) (o : Option DoneCall)
    → done_of (length call.stdin) line.result ≡ o → done_calls (call ∷ calls) (line ∷ lines) ≡ next_done o (done_calls calls lines)
calls_on call calls line lines None is = rw is refl
calls_on call calls line lines (Some d) is = rw is refl

-- nothing is left if either list is at its end
pub none_left : (calls : List CallPlan) (lines : List CallLine) → (length calls ≡ 0) ⊎ (length lines ≡ 0) → done_calls calls lines ≡ []
none_left [] lines e = refl
none_left (call ∷ calls) [] e = refl
none_left (call ∷ calls) (line ∷ lines) (inl e) = absurd (omega (arith, e))
none_left (call ∷ calls) (line ∷ lines) (inr e) = absurd (omega (arith, e))

-- which of two iterators is at its end
pub either_over : {A B C D : Type 0} {P : A → Type 0} {Q : B → Type 0} → ((x : A) × (C × P x)) ⊎ ((y : B) × (D × Q y)) → C ⊎ D
either_over (inl e) = inl e.1.0
either_over (inr e) = inr e.1.0

-- what is counted of the next call
pub sums_on : (sums : Totals) (call : CallPlan) (calls : List CallPlan) (line : CallLine) (lines : List CallLine) (all : List DoneCall) (most : ℕ)
    → IsSumming sums (call ∷ calls) (line ∷ lines) all most → IsSumming (counted (done_of (length call.stdin) line.result) sums) calls lines all most
sums_on sums call calls line lines all most s = on (done_of (length call.stdin) line.result) refl
  where
    on : (done : Option DoneCall) → done_of (length call.stdin) line.result ≡ done → IsSumming (counted done sums) calls lines all most
    on None is = record {
      dones = s.dones;
      are = s.are;
      all_are = subst (λ l. s.dones ++ l ≡ all) (calls_on call calls line lines _ is) s.all_are;
      few = omega (arith, s.few);
    }
    on (Some d) is = record {
      dones = s.dones ++ d ∷ [];
      are = ap (counted (Some d)) s.are ∙ totals_more s.dones d;
      all_are = append_assoc s.dones (d ∷ []) (done_calls calls lines) ∙ subst (λ l. s.dones ++ l ≡ all) (calls_on call calls line lines _ is) s.all_are;
      few = omega (arith, s.few, length-append s.dones (d ∷ []));
    }

-- the totals of all calls, if none is left
pub sums_all : (sums : Totals) (calls : List CallPlan) (lines : List CallLine) (all : List DoneCall) (most : ℕ)
    → IsSumming sums calls lines all most → done_calls calls lines ≡ [] → sums ≡ totals all
sums_all sums calls lines all most s none =
    s.are ∙ ap totals (sym (append-nil s.dones) ∙ subst (λ l. s.dones ++ l ≡ all) none s.all_are)
