-- Names hold no NUL.
use Rattle.std.proofs.Common.{◌≡◌, ℕ, ◌<◌, ◌≤◌, ◌+◌, drop, get_or, zero, suc, List, [], ◌∷◌, length, Bool, true, false, refl, sym, subst, ◌∙◌, arith}
use Rattle.std.specs.Prelude.{◌&&◌, nat_le, Contains, slice_index_or}
use Rattle.std.specs.List.{list_all}
use Rattle.std.proofs.lemmas.Bool.{and_parts, false≢true}
use Rattle.std.proofs.lemmas.List.{drop_more}
use Rattle.std.proofs.lemmas.Grind.{common_steps}
use Rattle.qrexec_frame.specs.Names.{is_name_byte}
use Rattle.qrexec_frame.specs.Texts.{HasNoNul}
use Rattle.scenario_file.specs.Names.{is_name, is_service, is_service_byte}

-- a list of bytes of which a test lets no NUL pass
no_nul : (p : ℕ → Bool) → p 0 ≡ false → (text : List ℕ) → list_all p text ≡ true → ¬ Contains text 0
no_nul p none [] all (k, within, is) = omega arith
no_nul p none (x ∷ text) all (k, within, is) = by_place k within is (λ j w e. no_nul p none text parts.1 (j, w, e))
  where
    parts : (p x ≡ true) × (list_all p text ≡ true)
    parts = and_parts (p x) (list_all p text) all

    by_place : (j : ℕ) → j < length (x ∷ text) → slice_index_or (x ∷ text) j 0 ≡ 0 → ((i : ℕ) → i < length text → slice_index_or text i 0 ≡ 0 → ⊥) → ⊥
    by_place zero w e more = let zero_passes = subst (λ (y : ℕ). p y ≡ true) e parts.0 in false≢true (sym none ∙ zero_passes)
    by_place (suc j) w e more = more j (omega (arith, w)) e

pub no_nul_in_name : (text : List ℕ) → is_name text ≡ true → HasNoNul text
no_nul_in_name text is =
    let parts = and_parts (nat_le 1 (length text) && nat_le (length text) 31) (list_all is_name_byte text) is in
    record { none = no_nul is_name_byte refl text parts.1 }

pub no_nul_in_service : (text : List ℕ) → is_service text ≡ true → HasNoNul text
no_nul_in_service text is =
    let parts = and_parts (nat_le 1 (length text) && nat_le (length text) 63) (list_all is_service_byte text) is in
    record { none = no_nul is_service_byte refl text parts.1 }

-- a test of the bytes from a place on, byte by byte
pub all_step : (p : ℕ → Bool) (text : List ℕ) (i d : ℕ) → i < length text → list_all p (drop i text) ≡ (p (get_or text i d) && list_all p (drop (i + 1) text))
all_step p text i d within = rw (drop_more text i d within) refl

pub all_over : (p : ℕ → Bool) (text : List ℕ) (i : ℕ) → length text ≤ i → list_all p (drop i text) ≡ true
all_over p text i over = let none : drop i text ≡ [] = grind (arith, common_steps) in rw none refl
