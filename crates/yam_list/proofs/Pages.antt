-- What a page holds and what is to come after it. Assumes nothing.
use Prim.Native.Nat.{ℕ, suc, ◌+◌, ◌-◌, ◌<◌, ◌≤◌}
use mathlib.Core.Path.{◌≡◌, refl, sym, ap, subst, ◌∙◌}
use mathlib.Core.List.{List, [], ◌∷◌, ◌++◌, append-nil}
use native.Mathlib.Omega.{arith}
use lib.ListN.{length, take, drop}
use lib.Seq.{length-take-le}
use Rattle.std.proofs.Common.{Option, Some, None, Ok, Err}
use Rattle.laws.specs.Test.{Holds}
use Rattle.words.specs.declared.Config.{Config}
use Rattle.words.specs.Configs.{lawful}
use Rattle.opening.specs.declared.Refusal.{Refusal}
use Rattle.opening.specs.Opening.{refusal_number}
use Rattle.text.specs.declared.errors.ListError.{ListError}
use Rattle.text.specs.declared.errors.ListError.TheVariants.{Unlawful, WrongSize, NoRoom}
use Rattle.text.specs.declared.listing.Listed.{Listed}
use Rattle.text.specs.Answers.{outcome_number, list_error_number}
use Rattle.text.specs.Pages.{written}
use Rattle.text.specs.Lines.{Listing}
use Rattle.text.specs.Claims.{lines_to_end, printed_from, Lists}
use Rattle.text.proofs.Written.{between, beyond_stays, length_written}
use Rattle.files.specs.Counts.{IsPrefixLen}
use Rattle.files.proofs.Counts.{counts}
use Rattle.yam_list.specs.declared.Printed.{Printed}
use Rattle.yam_list.specs.Printing.{refusal_bytes}
use Rattle.printing.specs.Numerals.{refusal_line}
use Rattle.printing.specs.Puts.{Puts}
use Rattle.yam_list.specs.Claims.{to_come, size_of, Prints, Turn, Turns, joined_pages}
use Rattle.yam_list.proofs.Lines.{refusal_short}

abbrev printed : ℕ → Option ℕ → Printed
printed bytes next = record { bytes = bytes; next = next }

-- a refusal's line

pub refusal_waits : (n next : ℕ) (page : List ℕ) → length page < refusal_bytes → Prints (λ _. refusal_line n) 0 next page (printed 0 (Some next)) page
refusal_waits n next page h = record { joined = refl; fits = counts 0 page (omega arith); keeps = refl; forward = λ k. absurd (omega arith) }

pub refusal_printed : (n next r : ℕ) (page after : List ℕ) → n < 100 → refusal_bytes ≤ length page → Puts page 0 (refusal_line n) r after →
    Prints (λ _. refusal_line n) 0 next page (printed r None) after
refusal_printed n next r page after small h p =
    let t = refusal_line n in
    let k : 0 + length t ≤ length page = omega (arith, refusal_short n small) in
    let w = p.fits k in
    rw (w.page, w.next)
    (record {
      joined = append-nil _ ∙ between page 0 t k;
      fits = counts (0 + length t) (written page 0 t) (omega (arith, length_written page 0 t, refusal_short n small));
      keeps = beyond_stays page 0 t k;
      forward = λ _. tt;
    })

-- lines of a listing

failing : (why : ListError) → list_error_number why ≡ 0 → ⊥
failing Unlawful e = absurd (omega arith)
failing WrongSize e = absurd (omega arith)
failing NoRoom e = absurd (omega arith)

module _ (c : Config) (image : List ℕ) (next : ℕ) (page : List ℕ) (r : Listed) (after : List ℕ) (allowed : Holds (lawful c)) (held : c.imsize ≤ length image)
    (l : Lists c (take c.imsize image) next page 0 r after) where
  abbrev words : List ℕ
  words = take c.imsize image

  joins : take r.place after ++ lines_to_end c words r.next ≡ lines_to_end c words next
  joins = ap (λ (x : Listing). printed_from 0 x ++ lines_to_end c words x.next) l.answer ∙ (l.on c words next page 0).0

  none_left : outcome_number r.outcome ≡ 0 → lines_to_end c words r.next ≡ []
  none_left z =
      ap (λ (x : Listing). lines_to_end c words x.next) l.answer ∙ (l.on c words next page 0).1 (sym (ap (λ (x : Listing). x.number) l.answer) ∙ z)

  in_bounds : IsPrefixLen r.place after
  in_bounds =
      let k = l.keeps c words next page 0 in
      counts r.place after (omega (arith, ap (λ (x : Listing). x.place) l.answer, ap length (ap (λ (x : Listing). x.page) l.answer), k.2, k.3 (omega arith)))

  keeps : drop r.place after ≡ drop r.place page
  keeps =
      ap (λ (x : Listing). drop x.place x.page) l.answer ∙ (l.keeps c words next page 0).1
      ∙ sym (ap (λ (n : ℕ). drop n page) (ap (λ (x : Listing). x.place) l.answer))

  -- no line is left
  pub lines_end : {u : Unit {0}} → r.outcome ≡ Ok u → Prints (lines_to_end c words) c.imsize next page (printed r.place None) after
  lines_end e = let z : outcome_number r.outcome ≡ 0 = rw e in record { joined = ap (λ (t : List ℕ). take r.place after ++ t) (sym (none_left z)) ∙ joins; fits = in_bounds; keeps = keeps; forward = λ _. tt }

  -- more are left
  pub lines_go_on : {why : ListError} → r.outcome ≡ Err why → Prints (lines_to_end c words) c.imsize next page (printed r.place (Some r.next)) after
  lines_go_on {why} e =
      let n : outcome_number r.outcome ≡ 0 → ⊥ = λ z. failing why (sym (ap outcome_number e) ∙ z) in
      let s : length words ≡ c.imsize = length-take-le c.imsize image held in
      let m = ap (λ (x : Listing). x.next) l.answer in
      record {
        joined = joins;
        fits = in_bounds;
        keeps = keeps;
        forward = λ h.
            let f = l.forward c words next page 0 allowed s h (λ z. n (ap (λ (x : Listing). x.number) l.answer ∙ z)) in
            (omega (arith, m, f.0), omega (arith, m, f.1, s));
      }

-- a page of either kind, as one of what is to come

pub refusal_to_come : (e : Refusal) (n : ℕ) (image : List ℕ) (next : ℕ) (page : List ℕ) (r : Printed) (after : List ℕ) → n ≡ refusal_number e →
    Prints (λ _. refusal_line n) 0 next page r after → Prints (to_come (Err e) image) (size_of (Err e)) next page r after
unfolding to_come
refusal_to_come e n image next page r after s p = subst (λ (m : ℕ). Prints (λ _. refusal_line m) 0 next page r after) s p

pub lines_to_come : (c : Config) (image : List ℕ) (next : ℕ) (page : List ℕ) (r : Printed) (after : List ℕ) →
    Prints (lines_to_end c (take c.imsize image)) c.imsize next page r after → Prints (to_come (Ok c) image) (size_of (Ok c)) next page r after
unfolding to_come
lines_to_come c image next page r after p = p

-- the pages of a run, joined
pub run_joined : (come : ℕ → List ℕ) (end next : ℕ) (ts : List Turn) → Turns come end next ts → joined_pages ts ≡ come next
run_joined come end next [] h = absurd h
run_joined come end next (t ∷ []) h = rw h.1 at h.0.joined
run_joined come end next (t ∷ u ∷ ts) (h, (k, e, rest)) =
    ap (λ (s : List ℕ). take t.answer.bytes t.after ++ s) (run_joined come end k (u ∷ ts) rest) ∙ (rw e at h.joined)

-- what falls from page to page: how many lines are left, and the turn itself
abbrev pub left : ℕ → Option ℕ → ℕ
left end (Some next) = suc (end - next)
left end None = 0
