-- Laws of putting words, blocks and the whole file, in the shape that the code leaves. Assumes nothing.
use Rattle.std.proofs.Common.{◌≡◌, ℕ, zero, suc, ◌+◌, ◌-◌, ◌*◌, ◌%◌, ◌^◌, ◌<◌, ◌≤◌, List, [], ◌∷◌, ◌++◌, length, get_or, set, sym, refl, ap, ◌∙◌, append-nil, add-zero, arith, length-append, drop_of_length-le}
use native.Mathlib.Nat.{mod-add-mod}
use lib.Seq.{sets, sets-eq}
use Rattle.laws.specs.First.{first_failing, numbered, obeyed}
use Rattle.image.specs.File.{words_of, total, checksum, blocks_for, file_size}
use Rattle.image.specs.Storing.{bytes_of, filled, block_of, blocks_of, head_of, file_of, store_tests}
use Rattle.words.specs.declared.Config.{Config}
use Rattle.image.proofs.Lists.{sets_append, length_words, words_at_lem}
use Rattle.image.proofs.Lawful.{size}

pub bytes_append : (xs ys : List ℕ) → bytes_of (xs ++ ys) ≡ bytes_of xs ++ bytes_of ys
unfolding bytes_of
bytes_append [] ys = refl
bytes_append (x ∷ xs) ys = rw (bytes_append xs ys)

pub length_bytes : (ws : List ℕ) → length (bytes_of ws) ≡ length ws * 4
unfolding bytes_of
length_bytes [] = refl
length_bytes (w ∷ ws) = let h = length_bytes ws in omega arith

-- words put after words
pub put_then : (f : List ℕ) (i j : ℕ) (xs ys : List ℕ) → j ≡ i + length xs * 4 →
    sets (sets f i (bytes_of xs)) j (bytes_of ys) ≡ sets f i (bytes_of (xs ++ ys))
put_then f i j xs ys e = rw (bytes_append, sets_append, length_bytes, e)

-- the four bytes of one word
pub put_four : (f : List ℕ) (at a b c d : ℕ) →
    set (set (set (set f at a) (at + 1) b) (at + 2) c) (at + 3) d ≡ sets f at (a ∷ b ∷ c ∷ d ∷ [])
put_four f at a b c d =
    let x : at + 1 ≡ suc at = omega arith in
    let y : at + 2 ≡ suc (suc at) = omega arith in
    let z : at + 3 ≡ suc (suc (suc at)) = omega arith in
    rw (x, y, z)

-- words put one by one: what is left after what is done is the whole
module _ (g : ℕ → ℕ) (place from n : ℕ) where
  pub put_start : (f : List ℕ) → sets f ((place + 0) * 4) (bytes_of (words_of g (from + 0) (n - 0))) ≡ sets f (place * 4) (bytes_of (words_of g from n))
  put_start f = let e : n - 0 ≡ n = omega arith in rw (add-zero, add-zero, e)

  pub put_next : (f : List ℕ) (k : ℕ) → k < n →
      sets (sets f ((place + k) * 4) (bytes_of (g (from + k) ∷ []))) ((place + (k + 1)) * 4) (bytes_of (words_of g (from + (k + 1)) (n - (k + 1)))) ≡
      sets f ((place + k) * 4) (bytes_of (words_of g (from + k) (n - k)))
  put_next f k h =
      put_then f ((place + k) * 4) ((place + (k + 1)) * 4) (g (from + k) ∷ []) (words_of g (from + (k + 1)) (n - (k + 1))) (omega arith) ∙
      rw (words_at_lem g from k n h)

  pub put_end : (f : List ℕ) → sets f ((place + n) * 4) (bytes_of (words_of g (from + n) (n - n))) ≡ f
  unfolding words_of bytes_of
  put_end f = let e : n - n ≡ 0 = omega arith in rw e

-- a block: its number, its words, its checksum
pub block_put : (f g h after ws : List ℕ) (b from s : ℕ) → g ≡ sets f (b * 128 * 4) (bytes_of (b ∷ [])) →
    h ≡ sets g ((b * 128 + 1) * 4) (bytes_of (filled ws from 126)) → s ≡ ((512 + b) % 2 ^ 32 + total (filled ws from 126)) % 2 ^ 32 →
    after ≡ sets h ((b * 128 + 127) * 4) (bytes_of (s ∷ [])) → after ≡ sets f (b * 512) (bytes_of (block_of b ws from))
unfolding block_of checksum total
block_put f g h after ws b from s p q r e =
    let t = filled ws from 126 in
    let one = put_then f (b * 128 * 4) ((b * 128 + 1) * 4) (b ∷ []) t (omega arith) in
    let n = length_words (λ k. get_or ws k 0) from 126 in
    let two = put_then f (b * 128 * 4) ((b * 128 + 127) * 4) (b ∷ t) (s ∷ []) (omega arith) in
    let c : s ≡ (b + total t + 512) % 2 ^ 32 = r ∙ mod-add-mod (512 + b) (2 ^ 32) (total t) ∙ ap (λ (x : ℕ). x % 2 ^ 32) (omega arith) in
    let z : b * 128 * 4 ≡ b * 512 = omega arith in
    e ∙ rw (q, p, one, two, c, z)

pub length_block : (b : ℕ) (ws : List ℕ) (i : ℕ) → length (block_of b ws i) ≡ 128
unfolding block_of
length_block b ws i = let t = b ∷ filled ws i 126 in let n = length_words (λ k. get_or ws k 0) i 126 in omega (arith, length-append t (checksum t ∷ []))

pub length_blocks : (b : ℕ) (ws : List ℕ) (i n : ℕ) → length (blocks_of b ws i n) ≡ n * 128
unfolding blocks_of
length_blocks b ws i zero = refl
length_blocks b ws i (suc n) =
    let h = length_blocks (suc b) ws (i + 126) n in
    let k = length_block b ws i in
    omega (arith, length-append (block_of b ws i) (blocks_of (suc b) ws (i + 126) n))

blocks_suc : (ws : List ℕ) (b i m : ℕ) → blocks_of b ws i (suc m) ≡ block_of b ws i ++ blocks_of (suc b) ws (i + 126) m
unfolding blocks_of
blocks_suc ws b i m = refl

-- the blocks of the image one by one
module _ (ws : List ℕ) (n : ℕ) where
  pub image_start : (f : List ℕ) → sets f ((0 + 1) * 512) (bytes_of (blocks_of (0 + 1) ws (0 * 126) (n - 0))) ≡ sets f 512 (bytes_of (blocks_of 1 ws 0 n))
  image_start f = let e : n - 0 ≡ n = omega arith in rw e

  pub image_next : (f : List ℕ) (b : ℕ) → b < n →
      sets (sets f ((b + 1) * 512) (bytes_of (block_of (b + 1) ws (b * 126)))) ((b + 1 + 1) * 512) (bytes_of (blocks_of (b + 1 + 1) ws ((b + 1) * 126) (n - (b + 1)))) ≡
      sets f ((b + 1) * 512) (bytes_of (blocks_of (b + 1) ws (b * 126) (n - b)))
  image_next f b h =
      let k = length_block (b + 1) ws (b * 126) in
      put_then f ((b + 1) * 512) ((b + 1 + 1) * 512) (block_of (b + 1) ws (b * 126)) (blocks_of (b + 1 + 1) ws ((b + 1) * 126) (n - (b + 1))) (omega arith) ∙
      ap (λ l. sets f ((b + 1) * 512) (bytes_of l)) (first b h)
    where
      first : (b : ℕ) → b < n → block_of (b + 1) ws (b * 126) ++ blocks_of (b + 1 + 1) ws ((b + 1) * 126) (n - (b + 1)) ≡ blocks_of (b + 1) ws (b * 126) (n - b)
      first b h =
          let e : n - b ≡ suc (n - (b + 1)) = omega arith in
          let s : b + 1 + 1 ≡ suc (b + 1) = omega arith in
          let i : (b + 1) * 126 ≡ b * 126 + 126 = omega arith in
          rw (e, s, i) (sym (blocks_suc ws (b + 1) (b * 126) (n - (b + 1))))

  pub image_end : (f : List ℕ) (b i at : ℕ) → sets f at (bytes_of (blocks_of b ws i (n - n))) ≡ f
  unfolding blocks_of bytes_of
  image_end f b i at = let e : n - n ≡ 0 = omega arith in rw e

-- the whole file fills a buffer of its length
pub file_put : (c : Config) (f g after image : List ℕ) (n : ℕ) → n ≡ c.imsize → length f ≡ file_size c.imsize →
    g ≡ sets f (0 * 512) (bytes_of (block_of 0 (head_of c) 0)) → after ≡ sets g 512 (bytes_of (blocks_of 1 image 0 (blocks_for n))) → after ≡ file_of c image
unfolding file_of
file_put c f g after image n m l p q =
    let k = length_block 0 (head_of c) 0 in
    let j = length_blocks 1 image 0 (blocks_for n) in
    let t = block_of 0 (head_of c) 0 ++ blocks_of 1 image 0 (blocks_for n) in
    let s = length_bytes t in
    let a = length-append (block_of 0 (head_of c) 0) (blocks_of 1 image 0 (blocks_for n)) in
    let w = put_then f 0 512 (block_of 0 (head_of c) 0) (blocks_of 1 image 0 (blocks_for n)) (omega arith) in
    let y = sets-eq (bytes_of t) f 0 (omega arith) in
    let d = drop_of_length-le f {i = 0 + length (bytes_of t)} (omega arith) in
    q ∙ rw (p, w, y, d, append-nil, m)

-- what no refusal says
pub store_passed : (c : Config) (m k : ℕ) → first_failing (store_tests c m k) ≡ 0 → (m ≡ c.imsize) × (c.imsize ≤ 32768) × (k ≡ file_size c.imsize)
unfolding store_tests
store_passed c m k e =
    let o = obeyed (store_tests c m k) (numbered (store_tests c m k) tt) e in
    (o.1.0, (size c o.0).1, o.1.1.0)
