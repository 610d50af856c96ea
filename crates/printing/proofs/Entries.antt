-- A listing's line of an address, as it is put. Assumes nothing.
use Prim.Native.Nat.{ℕ, ◌+◌, ◌<◌}
use mathlib.Core.Path.{◌≡◌, refl, sym, ap, ◌∙◌}
use mathlib.Core.Bool.{Bool, true, false}
use mathlib.Core.List.{List, [], ◌++◌, append_assoc}
use native.Mathlib.Omega.{arith}
use lib.Dec.{leb}
use lib.ListN.{length, get_or}
use Rattle.laws.specs.Choice.{pick, pick_yes}
use Rattle.laws.specs.Test.{test, tests}
use Rattle.words.specs.declared.Config.{Config}
use Rattle.words.specs.Configs.{lawful}
use Rattle.syntax.specs.Digits.{hex}
use Rattle.syntax.specs.Quoted.{quoted}
use Rattle.text.specs.Texts.{Text, printed, word_text, shown_call}
use Rattle.text.specs.Lines.{line_of, line_at}
use Rattle.std.specs.Prelude.{Ok, Err}
use Rattle.text.specs.declared.errors.TextError.{TextError}
use Rattle.text.specs.declared.errors.TextError.TheVariants.{Unread, NoRoom, TooLong}
use Rattle.text.specs.Answers.{texted_of}
use Rattle.text.proofs.Refusals.{small_number}
use Rattle.printing.specs.Entries.{shown_word, IsAfterError, entry_of, EntryIsLine}
use Rattle.printing.specs.Puts.{Puts}
use Rattle.printing.proofs.Puts.{nothing, stored, no_room}

-- what `text::shown` answers and leaves: b says if the configuration is lawful, d if there is room

has_put : (p : List ℕ) (at : ℕ) (t : List ℕ) (b d : Bool) → d ≡ leb (at + length t) (length p) → (a : Text) → a ≡ printed (pick b (pick d 0 18) 1) t p at →
    (a.number ≡ 18 → ⊥) → Puts p at (pick b t []) a.place a.page
unfolding printed pick
has_put p at t false d e a k n = rw k (nothing p at)
has_put p at t true true e a k n = rw k (stored p at (at + length t) t (length t) true refl e refl (record { next = refl; page = refl }))
has_put p at t true false e a k n = absurd (n (ap (λ (x : Text). x.number) k))

has_not : (p : List ℕ) (at : ℕ) (t : List ℕ) (b d : Bool) → d ≡ leb (at + length t) (length p) → (a : Text) → a ≡ printed (pick b (pick d 0 18) 1) t p at →
    a.number ≡ 18 → (r : ℕ) → length a.page < r → Puts p at (pick b t []) r a.page
unfolding printed pick
has_not p at t false d e a k n r h = absurd (let z : ◌≡◌ {A = ℕ} 1 18 = sym (ap (λ (x : Text). x.number) k) ∙ n in omega arith)
has_not p at t true true e a k n r h = absurd (let z : ◌≡◌ {A = ℕ} 0 18 = sym (ap (λ (x : Text). x.number) k) ∙ n in omega arith)
has_not p at t true false e a k n r h = rw k (no_room p at r t (length t) false refl e refl (rw k at h))

module _ (c : Config) (w : ℕ) (p : List ℕ) (at : ℕ) (a : Text) (k : a ≡ shown_call c w p at) where
  shown_put : (a.number ≡ 18 → ⊥) → Puts p at (shown_word c w) a.place a.page
  unfolding shown_call shown_word
  shown_put n = has_put p at (word_text c w) (test (lawful c)) (leb (at + length (word_text c w)) (length p)) refl a k n

  shown_not : a.number ≡ 18 → (r : ℕ) → length a.page < r → Puts p at (shown_word c w) r a.page
  unfolding shown_call shown_word
  shown_not n r h = has_not p at (word_text c w) (test (lawful c)) (leb (at + length (word_text c w)) (length p)) refl a k n r h

module _ (c : Config) (w : ℕ) (p q : List ℕ) (at : ℕ) where
  pub shown_after : (r : ℕ) → texted_of (Ok r) at q ≡ shown_call c w p at → Puts p at (shown_word c w) r q
  shown_after r k = shown_put c w p at (texted_of (Ok r) at q) k (λ n. omega (arith, n))

  pub shown_error : (e : TextError) (r : ℕ) → texted_of (Err e) at q ≡ shown_call c w p at → IsAfterError e q at r → Puts p at (shown_word c w) r q
  shown_error NoRoom r k h = shown_not c w p at (texted_of (Err NoRoom) at q) k refl r h
  shown_error (Unread x) r k h = rw h (shown_put c w p at (texted_of (Err (Unread x)) at q) k (λ e. omega (arith, e, small_number x)))
  shown_error TooLong r k h = rw h (shown_put c w p at (texted_of (Err TooLong) at q) k (λ e. omega (arith, e)))

pub entry_is_line : EntryIsLine
unfolding entry_of shown_word line_at line_of
entry_is_line c image a l =
    let w = get_or image a 0 in
    rw (pick_yes (test (lawful c)) (word_text c w) [] (tests (lawful c) l)) (simp append_assoc)

pub entry_put : (c : Config) (image : List ℕ) (a w : ℕ) {p q : List ℕ} {at r : ℕ} → w ≡ get_or image a 0 →
    Puts p at (hex 6 a ++ (quoted " " ++ (hex 8 w ++ (quoted " " ++ shown_word c w)))) r q → Puts p at (entry_of c image a) r q
unfolding entry_of
entry_put c image a w e h = rw (← e) h
