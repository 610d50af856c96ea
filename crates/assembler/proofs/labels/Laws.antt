-- Labels as numbers are told apart; the chains find what the list of entries holds; and entries answer as syntax's labels do.
-- Assumes nothing.
use mathlib.Core.Path.{◌≡◌, refl, ap, sym, subst, ◌∙◌}
use mathlib.Core.Bool.{Bool, true, false, ◌||◌, or_assoc, or-false}
use mathlib.Core.List.{List, [], ◌∷◌, reverse_aux, reverse, reverse-reverse}
use Prim.Native.Nat.{ℕ, zero, suc, ◌+◌, ◌-◌, ◌*◌, ◌%◌, ◌^◌, ◌<◌, ◌≤◌, min}
use native.Mathlib.Nat.{pow-suc, pow-le-pow_right, le_of_suc-le-suc, not-suc-le-zero}
use native.Mathlib.Numerals.{add-one}
use native.Mathlib.Omega.{arith}
use borrow.Author.Tests.{eq-eqb, ne_eqb, le-leb, lt-leb, eqb-true, eqb-false, ltb-true, ltb-false}
use lib.Dec.{T, eqb, leb, ltb, eqb→eq, eqb_refl, leb→le}
use lib.ListN.{length, get_or, set, replicate, drop, drop_of_length-le}
use lib.Seq.{drop-cons, get_or-set_same, get_or-set_other}
use Rattle.std.specs.Prelude.{Some, None, is_some}
use Rattle.laws.specs.Choice.{pick, either, is_true, is_false}
use Rattle.laws.specs.Test.{and_left, and_right, and_both}
use Rattle.laws.specs.Lists.{column}
use Rattle.syntax.specs.Pieces.{equal}
use Rattle.syntax.proofs.Pieces.{equal_is, equal_same}
use Rattle.syntax.specs.Lines.{is_small, letters_of, beyond, is_label}
use Rattle.syntax.specs.Labels.{Label, label, at, address_of, known}
use Rattle.assembler.specs.declared.labels.Entry.{Entry}
use Rattle.assembler.specs.declared.labels.Labels.{Labels}
use Rattle.assembler.specs.Chains.{spell, all_small, hash_of, last_in, lookup, Chained, capped, Keyed, place_of, aim}
use Rattle.assembler.specs.Entries.{keys_of, places_of, nexts_of}
use Rattle.assembler.specs.Keys.{label_key}
use Rattle.assembler.specs.Tables.{Inserted}

-- the letters of a line

pub letters_small : (l : List ℕ) → T (all_small (letters_of l))
unfolding letters_of
letters_small [] = tt
letters_small (b ∷ l) =
    let h = letters_small l in
    either (λ m. T (all_small m)) (is_small b) (b ∷ letters_of l) [] (λ t. and_both (is_small b) (all_small (letters_of l)) t h) (λ t. tt)

-- spelling, one letter more

pub spell_more : (s : List ℕ) (j x b : ℕ) → j < length s → b ≡ get_or s j 0 → spell 0 s ≡ spell x (drop j s) →
    spell 0 s ≡ spell (32 * x + b % 32) (drop (j + 1) s)
spell_more s j x b h q e = e ∙ rw (drop-cons s j 0 h, add-one j, q)

pub beyond_more : (s : List ℕ) (j b : ℕ) (y : Bool) → j < length s → b ≡ get_or s j 0 → beyond s ≡ (y || beyond (drop j s)) →
    beyond s ≡ ((y || ltb 102 b) || beyond (drop (j + 1) s))
unfolding beyond
beyond_more s j b y h q e = e ∙ rw (drop-cons s j 0 h, add-one j, q) (sym (or_assoc y (ltb 102 (get_or s j 0)) (beyond (drop (suc j) s))))

pub bound_more : (j x b : ℕ) → x < 32 ^ j → 32 * x + b % 32 < 32 ^ (j + 1)
bound_more j x b h = rw (add-one j, pow-suc 32 j) (omega arith)

pub bound_small : (j : ℕ) → j ≤ 12 → 32 ^ j ≤ 0x1000000000000000
bound_small j h = pow-le-pow_right {n = 32} (omega arith) {i = j} {j = 12} h

pub key_long : (s : List ℕ) → 12 < length s → None ≡ label_key s
unfolding label_key is_label pick
key_long s h = rw (lt-leb (length s) 12 h)

key_spelled : (s : List ℕ) (x : ℕ) (y : Bool) → length s ≤ 12 → spell 0 s ≡ x → beyond s ≡ y → pick y (Some x) None ≡ label_key s
unfolding label_key is_label
key_spelled s x y h p q = rw (le-leb (length s) 12 h, q, p)

module _ (s : List ℕ) (x j : ℕ) (y : Bool) (h : length s ≤ 12) (k : length s ≤ j) (p : spell 0 s ≡ spell x (drop j s)) (q : beyond s ≡ (y || beyond (drop j s))) where
  done : drop j s ≡ []
  done = drop_of_length-le s {i = j} k

  pub key_yes : y ≡ true → Some x ≡ label_key s
  unfolding beyond pick
  key_yes u = rw u at (key_spelled s x y h (rw done at p) ((rw done at q) ∙ or-false y))

  pub key_no : y ≡ false → None ≡ label_key s
  unfolding beyond pick
  key_no u = rw u at (key_spelled s x y h (rw done at p) ((rw done at q) ∙ or-false y))

-- the table: chains find the last entry of a number

last_in_le : (keys : List ℕ) (m h : ℕ) → last_in keys m h ≤ m
last_in_le keys zero h = omega arith
last_in_le keys (suc m) h =
    let i = last_in_le keys m h in
    either (λ (z : ℕ). z ≤ suc m) (eqb (hash_of (get_or keys m 0)) h) (suc m) (last_in keys m h) (λ t. omega arith) (λ t. omega arith)

last_in_hash : (keys : List ℕ) (m h : ℕ) → 0 < last_in keys m h → hash_of (get_or keys (last_in keys m h - 1) 0) ≡ h
last_in_hash keys zero h = λ i. absurd (omega arith)
last_in_hash keys (suc m) h =
    let e : suc m - 1 ≡ m = omega arith in
    either
    (λ (z : ℕ). 0 < z → hash_of (get_or keys (z - 1) 0) ≡ h)
    (eqb (hash_of (get_or keys m 0)) h)
    (suc m)
    (last_in keys m h)
    (λ t i. rw e (eqb→eq (hash_of (get_or keys m 0)) h t))
    (λ t. last_in_hash keys m h)

-- an entry of another number is passed over
lookup_other : (keys : List ℕ) (m x : ℕ) → (get_or keys m 0 ≡ x → ⊥) → lookup keys (suc m) x ≡ lookup keys m x
unfolding pick
lookup_other keys m x n = rw (ne_eqb (get_or keys m 0) x n)

lookup_here : (keys : List ℕ) (m x : ℕ) → get_or keys m 0 ≡ x → lookup keys (suc m) x ≡ Some m
unfolding pick
lookup_here keys m x e = rw (eq-eqb (get_or keys m 0) x e)

-- so are entries of another hash
lookup_last : (keys : List ℕ) (m x : ℕ) → lookup keys m x ≡ lookup keys (last_in keys m (hash_of x)) x
lookup_last keys zero x = refl
lookup_last keys (suc m) x =
    either
    (λ (z : ℕ). lookup keys (suc m) x ≡ lookup keys z x)
    (eqb (hash_of (get_or keys m 0)) (hash_of x))
    (suc m)
    (last_in keys m (hash_of x))
    (λ t. refl)
    (λ t. lookup_other keys m x (λ e. t (rw e (eqb_refl (hash_of x)))) ∙ lookup_last keys m x)

-- the search for x among the first n entries has come to entry k
pub record Sought (keys : List ℕ) (n x k : ℕ) : Type 0 where
  pub inside : k ≤ n
  pub left : lookup keys n x ≡ lookup keys k x
  pub hashed : 0 < k → hash_of (get_or keys (k - 1) 0) ≡ hash_of x

pub hash_small : (x : ℕ) → hash_of x < 1024
unfolding hash_of
hash_small x = omega arith

-- from entry m on the next one to look at is the last of this hash
sought_last : (keys : List ℕ) (n x m k : ℕ) → m ≤ n → lookup keys n x ≡ lookup keys m x → k ≡ last_in keys m (hash_of x) → Sought keys n x k
sought_last keys n x m k h e q = rw q (record {
  inside = let i = last_in_le keys m (hash_of x) in omega arith;
  left = e ∙ lookup_last keys m x;
  hashed = last_in_hash keys m (hash_of x);
})

pub sought_first : (heads nexts keys : List ℕ) (n x h k : ℕ) → Chained heads nexts keys n → h ≡ hash_of x → k ≡ get_or heads h 0 → Sought keys n x k
sought_first heads nexts keys n x h k c e q =
    sought_last keys n x n k (omega arith) refl (q ∙ (rw e (c.head (hash_of x) (hash_small x))))

pub sought_next : (heads nexts keys : List ℕ) (n x k b m : ℕ) → Chained heads nexts keys n → Sought keys n x k → 0 < k → b ≡ get_or keys (k - 1) 0 → (b ≡ x → ⊥) →
    m ≡ get_or nexts (k - 1) 0 → Sought keys n x m × (m < k)
sought_next heads nexts keys n x zero b m c s h e d q = absurd (omega arith)
sought_next heads nexts keys n x (suc k) b m c s h e d q =
    let i = s.inside in
    let z : suc k - 1 ≡ k = omega arith in
    let u : m ≡ last_in keys k (hash_of x) = (rw z at q) ∙ (c.next k (omega arith) ∙ ap (last_in keys k) (rw z at (s.hashed h))) in
    let v = last_in_le keys k (hash_of x) in
    (sought_last keys n x k m (omega arith) (s.left ∙ lookup_other keys k x (λ y. d ((rw z at e) ∙ y))) u, omega arith)

pub sought_found : (keys : List ℕ) (n x k b : ℕ) → Sought keys n x k → 0 < k → b ≡ get_or keys (k - 1) 0 → b ≡ x → Some (k - 1) ≡ lookup keys n x
sought_found keys n x zero b s h e d = absurd (omega arith)
sought_found keys n x (suc k) b s h e d =
    let z : suc k - 1 ≡ k = omega arith in
    ap Some z ∙ sym (s.left ∙ lookup_here keys k x (sym (rw z at e) ∙ d))

pub sought_none : (keys : List ℕ) (n x k : ℕ) → Sought keys n x k → k ≡ 0 → None ≡ lookup keys n x
sought_none keys n x k s e = sym (s.left ∙ rw e)

pub capped_is : (a r : ℕ) → r ≡ min a 0x800000 → r ≡ capped a
unfolding capped pick
capped_is a r e = e ∙ go (ltb a 0x800000) refl
  where
    go : (y : Bool) → ltb a 0x800000 ≡ y → min a 0x800000 ≡ pick y a 0x800000
    go true u = let h = ltb-true a 0x800000 u in omega arith
    go false u = let h = ltb-false a 0x800000 u in omega arith

-- labels as numbers: told apart, and never 0

-- the number of letters of which the last one comes first
back : List ℕ → ℕ
back [] = 0
back (b ∷ l) = 32 * back l + b % 32

spell_back : (r s : List ℕ) → spell (back r) s ≡ back (reverse_aux s r)
unfolding back
spell_back r [] = refl
spell_back r (b ∷ s) = spell_back (b ∷ r) s

small_back : (s r : List ℕ) → T (all_small s) → T (all_small r) → T (all_small (reverse_aux s r))
small_back [] r h k = k
small_back (b ∷ s) r h k =
    small_back s (b ∷ r) (and_right (is_small b) (all_small s) h) (and_both (is_small b) (all_small r) (and_left (is_small b) (all_small s) h) k)

-- the small letters are 97 to 122
small_range : (b : ℕ) → T (is_small b) → (97 ≤ b) × (b ≤ 122)
unfolding is_small
small_range b h = (leb→le 97 b (and_left (leb 97 b) (leb b 122) h), leb→le b 122 (and_right (leb 97 b) (leb b 122) h))

back_same : (s t : List ℕ) → T (all_small s) → T (all_small t) → back s ≡ back t → s ≡ t
unfolding back
back_same [] [] h k e = refl
back_same [] (b ∷ t) h k e = let r = small_range b (and_left (is_small b) (all_small t) k) in absurd (omega arith)
back_same (a ∷ s) [] h k e = let r = small_range a (and_left (is_small a) (all_small s) h) in absurd (omega arith)
back_same (a ∷ s) (b ∷ t) h k e =
    let p = small_range a (and_left (is_small a) (all_small s) h) in
    let q = small_range b (and_left (is_small b) (all_small t) k) in
    let u : a ≡ b = omega arith in
    let v = back_same s t (and_right (is_small a) (all_small s) h) (and_right (is_small b) (all_small t) k) (omega arith) in
    rw (u, v)

pub spell_same : (s t : List ℕ) → T (all_small s) → T (all_small t) → spell 0 s ≡ spell 0 t → s ≡ t
unfolding back
spell_same s t h k e =
    let u : reverse s ≡ reverse t =
    back_same (reverse s) (reverse t) (small_back s [] h tt) (small_back t [] k tt) (sym (spell_back [] s) ∙ (e ∙ spell_back [] t)) in
    sym (reverse-reverse s) ∙ (ap reverse u ∙ reverse-reverse t)

pub spell_equal : (s t : List ℕ) → T (all_small s) → T (all_small t) → eqb (spell 0 s) (spell 0 t) ≡ equal s t
spell_equal s t h k = go (eqb (spell 0 s) (spell 0 t)) refl
  where
    go : (y : Bool) → eqb (spell 0 s) (spell 0 t) ≡ y → eqb (spell 0 s) (spell 0 t) ≡ equal s t
    go true u =
        let e = spell_same s t h k (eqb-true (spell 0 s) (spell 0 t) u) in
        u ∙ sym (rw e (is_true (equal t t) (equal_same t)))
    go false u =
        u ∙ sym (is_false (equal s t) λ m. eqb-false (spell 0 s) (spell 0 t) u (ap (spell 0) (equal_is s t m)))

-- columns of entries

pub column_length : (f : Entry → ℕ) (l : List Entry) → length (column f l) ≡ length l
column_length f [] = refl
column_length f (e ∷ l) = ap suc (column_length f l)

pub column_set : (f : Entry → ℕ) (l : List Entry) (n : ℕ) (e : Entry) → column f (set l n e) ≡ set (column f l) n (f e)
column_set f [] n e = refl
column_set f (x ∷ l) zero e = refl
column_set f (x ∷ l) (suc n) e = ap (λ (m : List ℕ). f x ∷ m) (column_set f l n e)

pub column_get : (f : Entry → ℕ) (l : List Entry) (n : ℕ) (d : Entry) → n < length l → f (get_or l n d) ≡ get_or (column f l) n 0
column_get f [] n d h = absurd (not-suc-le-zero h)
column_get f (x ∷ l) zero d h = refl
column_get f (x ∷ l) (suc n) d h = column_get f l n d (le_of_suc-le-suc h)

module _ (heads : List ℕ) (entries : List Entry) (n x k : ℕ) (d : Entry) (s : Sought (keys_of entries) n x k) (h : 0 < k) (l : n ≤ length entries) where
  entry-inside : k - 1 < length entries
  entry-inside = let i = s.inside in omega arith

  pub entry_found : (get_or entries (k - 1) d).key ≡ x → Some (k - 1) ≡ lookup (keys_of entries) n x
  entry_found e = sought_found (keys_of entries) n x k _ s h (column_get (λ e. e.key) entries (k - 1) d entry-inside) e

  pub entry_next : Chained heads (nexts_of entries) (keys_of entries) n → ((get_or entries (k - 1) d).key ≡ x → ⊥) →
      Sought (keys_of entries) n x (get_or entries (k - 1) d).next × ((get_or entries (k - 1) d).next < k)
  entry_next c e =
      sought_next heads (nexts_of entries) (keys_of entries) n x k _ _ c s h (column_get (λ e. e.key) entries (k - 1) d entry-inside) e
      (column_get (λ e. e.next) entries (k - 1) d entry-inside)

-- the table, empty and with one entry more

pub all_zero : (n h : ℕ) → get_or {A = ℕ} (replicate n 0) h 0 ≡ 0
all_zero zero h = refl
all_zero (suc n) zero = refl
all_zero (suc n) (suc h) = all_zero n h

pub chained_none : (heads nexts keys : List ℕ) → ((h : ℕ) → h < 1024 → get_or heads h 0 ≡ 0) → Chained heads nexts keys 0
chained_none heads nexts keys f = record { head = f; next = λ j h. absurd (omega arith) }

-- a store at n or behind leaves the first m entries
last_in_set : (keys : List ℕ) (n x m h : ℕ) → m ≤ n → last_in (set keys n x) m h ≡ last_in keys m h
last_in_set keys n x zero h i = refl
last_in_set keys n x (suc m) h i = rw (get_or-set_other keys n m x 0 (λ e. omega (arith, e)), last_in_set keys n x m h (omega arith))

chain_head : (heads keys : List ℕ) (n x h : ℕ) → length heads ≡ 1024 → n < length keys → h < 1024 → get_or heads h 0 ≡ last_in keys n h →
    get_or (set heads (hash_of x) (suc n)) h 0 ≡ last_in (set keys n x) (suc n) h
unfolding pick
chain_head heads keys n x h l k i e =
    rw (get_or-set_same keys n x 0 k, last_in_set keys n x n h (omega arith)) (go (eqb (hash_of x) h) refl)
  where
    go : (y : Bool) → eqb (hash_of x) h ≡ y → get_or (set heads (hash_of x) (suc n)) h 0 ≡ pick (eqb (hash_of x) h) (suc n) (last_in keys n h)
    go true u = let q = eqb-true (hash_of x) h u in rw (u, q) (get_or-set_same heads h (suc n) 0 (omega arith))
    go false u = rw (u, get_or-set_other heads (hash_of x) h (suc n) 0 (λ q. eqb-false (hash_of x) h u (sym q))) e

chain_next : (heads nexts keys : List ℕ) (n x j : ℕ) → Chained heads nexts keys n → n < length nexts → n < length keys → j < suc n →
    get_or (set nexts n (get_or heads (hash_of x) 0)) j 0 ≡ last_in (set keys n x) j (hash_of (get_or (set keys n x) j 0))
chain_next heads nexts keys n x j c l k i = go (eqb j n) refl
  where
    go : (y : Bool) → eqb j n ≡ y → get_or (set nexts n (get_or heads (hash_of x) 0)) j 0 ≡ last_in (set keys n x) j (hash_of (get_or (set keys n x) j 0))
    go true u =
        rw (eqb-true j n u, get_or-set_same nexts n (get_or heads (hash_of x) 0) 0 l, get_or-set_same keys n x 0 k, last_in_set keys n x n (hash_of x) (omega arith))
        (c.head (hash_of x) (hash_small x))
    go false u =
        let d = eqb-false j n u in
        rw
        (get_or-set_other nexts n j (get_or heads (hash_of x) 0) 0 d, get_or-set_other keys n j x 0 d, last_in_set keys n x j (hash_of (get_or keys j 0)) (omega arith))
        (c.next j (omega arith))

-- with the lists of one entry more
pub chained_insert : (heads nexts keys : List ℕ) (n x h m : ℕ) → Chained heads nexts keys n → length heads ≡ 1024 → n < length nexts → n < length keys →
    h ≡ hash_of x → m ≡ suc n → Chained (set heads h m) (set nexts n (get_or heads h 0)) (set keys n x) m
chained_insert heads nexts keys n x h m c lh ln lk e q =
    rw (e, q) (record {
      head = λ g k. chain_head heads keys n x g lh lk k (c.head g k);
      next = λ j k. chain_next heads nexts keys n x j c ln lk k;
    })

pub chained_entry : (heads : List ℕ) (entries : List Entry) (n x h p : ℕ) → Chained heads (nexts_of entries) (keys_of entries) n → length heads ≡ 1024 →
    n < length entries → h ≡ hash_of x →
    Chained (set heads h (n + 1)) (nexts_of (set entries n (record { key = x; place = p; next = get_or heads h 0 })))
    (keys_of (set entries n (record { key = x; place = p; next = get_or heads h 0 }))) (n + 1)
chained_entry heads entries n x h p c lh le e =
    rw (
      column_set (λ e. e.next) entries n (record { key = x; place = p; next = get_or heads h 0 }),
      column_set (λ e. e.key) entries n (record { key = x; place = p; next = get_or heads h 0 }),
    )
    (chained_insert heads (nexts_of entries) (keys_of entries) n x h (n + 1) c lh (rw column_length le) (rw column_length le) e (omega arith))

pub inserted : (t t' : Labels) (x a p next : ℕ) → t'.count ≡ t.count + 1 → t'.entries ≡ set t.entries t.count (record { key = x; place = p; next = next }) →
    p ≡ capped a → t.count < length t.entries → Inserted t x a t'
inserted t t' x a p next e f q h =
    record {
      inside = h;
      counted = omega (arith, e);
      keys_set = ap keys_of f ∙ column_set (λ e. e.key) t.entries t.count (record { key = x; place = p; next = next });
      places_set =
          ap places_of f ∙ column_set (λ e. e.place) t.entries t.count (record { key = x; place = p; next = next }) ∙
          ap (set (places_of t.entries) t.count) q;
    }

-- the entries are syntax's labels

keyed_set : (keys places : List ℕ) (n x a : ℕ) (seen : List Label) → length seen ≤ n → Keyed keys places seen → Keyed (set keys n x) (set places n a) seen
keyed_set keys places n x a [] h k = tt
keyed_set keys places n x a (l ∷ ls) h k =
    let d : length ls ≡ n → ⊥ = λ e. omega (arith, e) in
    (k.0, k.1, get_or-set_other keys n (length ls) x 0 d ∙ k.2, get_or-set_other places n (length ls) a 0 d ∙ k.3, keyed_set keys places n x a ls (omega arith) k.4)

pub keyed_insert : (t t' : Labels) (x a : ℕ) (seen : List Label) (s : List ℕ) → Keyed (keys_of t.entries) (places_of t.entries) seen → t.count ≡ length seen →
    Inserted t x a t' → x ≡ spell 0 s → T (is_label s) → T (all_small s) →
    Keyed (keys_of t'.entries) (places_of t'.entries) (label s a ∷ seen)
keyed_insert t t' x a seen s k e i q u v =
    let n = t.count in
    let keys = keys_of t.entries in
    let places = places_of t.entries in
    let older : Keyed (keys_of t'.entries) (places_of t'.entries) seen =
    subst (λ ks. Keyed ks (places_of t'.entries) seen) (sym i.keys_set)
    (subst (λ ps. Keyed (set keys n x) ps seen) (sym i.places_set) (keyed_set keys places n x (capped a) seen (omega arith) k)) in
    let lk : n < length keys = rw column_length i.inside in
    let lp : n < length places = rw column_length i.inside in (
      u,
      v,
      ap (λ (ks : List ℕ). get_or ks (length seen) 0) i.keys_set ∙ ap (λ (j : ℕ). get_or (set keys n x) j 0) (sym e) ∙ get_or-set_same keys n x 0 lk ∙ q,
      ap (λ (ps : List ℕ). get_or ps (length seen) 0) i.places_set ∙ ap (λ (j : ℕ). get_or (set places n (capped a)) j 0) (sym e) ∙
          get_or-set_same places n (capped a) 0 lp,
      older,
    )

-- one label more: found there, or as before
pub keyed_address : (keys places : List ℕ) (seen : List Label) (s : List ℕ) → Keyed keys places seen → T (all_small s) →
    place_of places (lookup keys (length seen) (spell 0 s)) ≡ aim (address_of seen s)
unfolding address_of pick
keyed_address keys places [] s k t = refl
keyed_address keys places (l ∷ ls) s k t =
    let m = keyed_address keys places ls s k.4 t in
    rw (k.2, spell_equal l.name s k.1 t) (go (equal l.name s) m)
  where
    go : (y : Bool) → place_of places (lookup keys (length ls) (spell 0 s)) ≡ aim (address_of ls s) →
        place_of places (pick y (Some (length ls)) (lookup keys (length ls) (spell 0 s))) ≡ aim (pick y (at l.address) (address_of ls s))
    go true m = ap Some k.3
    go false m = m

-- whether a name is among those seen
abbrev pub names_of : List Label → List (List ℕ)
names_of seen = column (λ (x : Label). x.name) seen

pub keyed_known : (keys places : List ℕ) (seen : List Label) (s : List ℕ) → Keyed keys places seen → T (all_small s) →
    is_some (lookup keys (length seen) (spell 0 s)) ≡ known (names_of seen) s
unfolding pick
keyed_known keys places [] s k t = refl
keyed_known keys places (l ∷ ls) s k t =
    let m = keyed_known keys places ls s k.4 t in
    rw (k.2, spell_equal l.name s k.1 t) (go (equal l.name s) m)
  where
    go : (y : Bool) → is_some (lookup keys (length ls) (spell 0 s)) ≡ known (names_of ls) s →
        is_some (pick y (Some (length ls)) (lookup keys (length ls) (spell 0 s))) ≡ y || known (names_of ls) s
    go true m = refl
    go false m = m
