-- Writers one after another. Assumes nothing.
use Prim.Native.Nat.{ℕ, ◌+◌, ◌≤◌, ◌<◌}
use mathlib.Core.Path.{◌≡◌, refl, sym, ap, subst, ◌∙◌}
use mathlib.Core.Bool.{Bool, true, false}
use mathlib.Core.List.{List, [], ◌++◌}
use native.Mathlib.Omega.{arith}
use borrow.Author.Tests.{leb-true, leb-false}
use lib.Dec.{leb}
use lib.ListN.{length, length-append}
use Rattle.text.specs.Pages.{written, Wrote}
use Rattle.text.proofs.Written.{then, length_written}
use Rattle.printing.specs.Puts.{Puts}

-- no bytes
pub nothing : (p : List ℕ) (at : ℕ) → Puts p at [] at p
unfolding written
nothing p at = record {
  kept = refl;
  fits = λ h. record { next = omega arith; page = refl };
  over = λ h. omega arith;
}

-- bytes and then others
pub puts_then : {p q u : List ℕ} {at m r : ℕ} {s t : List ℕ} → Puts p at s m q → Puts q m t r u → Puts p at (s ++ t) r u
puts_then {p} {q} {u} {at} {m} {r} {s} {t} a b = record {
  kept = b.kept ∙ a.kept;
  fits = λ h.
      let l = length-append s t in
      let x = a.fits (omega (arith, l)) in
      then x (b.fits (omega (arith, l, x.next, a.kept)));
  over = λ h. beyond (leb (at + length s) (length p)) refl h;
}
  where
    beyond : (b : Bool) → leb (at + length s) (length p) ≡ b → length p < at + length (s ++ t) → length p < r
    beyond true e h =
        let x = a.fits (leb-true (at + length s) (length p) e) in
        let y = b.over (omega (arith, length-append s t, x.next, a.kept, h)) in
        omega (arith, a.kept)
    beyond false e h =
        let x = a.over (leb-false (at + length s) (length p) e) in
        let y = b.over (omega (arith, a.kept)) in
        omega (arith, a.kept)

module _ (p : List ℕ) (at r : ℕ) (t : List ℕ) (n : ℕ) (b : Bool) (size : n ≡ length t) (room : b ≡ leb (at + n) (length p)) where
  pub room_there : b ≡ true → at + n ≤ length p
  room_there e = leb-true (at + n) (length p) (sym room ∙ e)

  -- bytes that were stored with room for them
  pub stored : {q : List ℕ} → b ≡ true → Wrote p at t r q → Puts p at t r q
  stored e w =
      let h = leb-true (at + n) (length p) (sym room ∙ e) in
      record { kept = ap length w.page ∙ length_written p at t; fits = λ _. w; over = λ l. absurd (omega arith) }

  -- no room for them, and a place beyond the page
  pub no_room : b ≡ false → length p < r → Puts p at t r p
  no_room e k =
      let h = leb-false (at + n) (length p) (sym room ∙ e) in
      record { kept = refl; fits = λ l. absurd (omega arith); over = λ _. k }

-- the same bytes by another name
pub put_as : {p q : List ℕ} {at r : ℕ} {s t : List ℕ} → s ≡ t → Puts p at s r q → Puts p at t r q
put_as {p} {q} {at} {r} e w = subst (λ (z : List ℕ). Puts p at z r q) e w
