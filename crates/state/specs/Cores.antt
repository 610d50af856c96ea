-- The core after one small change: what a step is put together from. The methods of Core hand these back.
use Rattle.std.specs.Prelude.{ℕ, ◌+◌, eqb, Option, Some, None}
use Rattle.laws.specs.Choice.{pick, decided, swapped}
use Rattle.state.specs.declared.Core.{Core}
use Rattle.state.specs.declared.Write.{Write}
use Rattle.state.specs.declared.Change.{Change}

-- the parts of a core, and a core with one of them changed
pub data Place : Type 0 where
  PC WP RX RY LOADED N Z SPR7 DEPTH IMASK SAVED MODE POSTED PORT TAKEN LOGGED : Place
  deriving Discrete as Place-discrete

infixl 5 ◌but◌≔◌
abbrev pub ◌but◌≔◌ : Core → Place → ℕ → Core
m but p ≔ x =
    let here : Place → ℕ → ℕ = λ q y. swapped (decided (Place-discrete p q)) x y in
    record {
      pc = here PC m.pc;
      wp = here WP m.wp;
      rx = here RX m.rx;
      ry = here RY m.ry;
      loaded = here LOADED m.loaded;
      n = here N m.n;
      z = here Z m.z;
      spr7 = here SPR7 m.spr7;
      depth = here DEPTH m.depth;
      imask = here IMASK m.imask;
      saved = here SAVED m.saved;
      mode = here MODE m.mode;
      posted = here POSTED m.posted;
      port = here PORT m.port;
      taken = here TAKEN m.taken;
      logged = here LOGGED m.logged;
    }

abbrev pub at : Core → ℕ → Core
at m p = m but PC ≔ p

-- the posted mark and address
abbrev pub posting : Core → ℕ → ℕ → Core
posting m mark address = m but POSTED ≔ mark but PORT ≔ address

-- control goes to the next address, and nothing is posted any more: only a port write posts anew
abbrev pub next : Core → Core
next m = posting (at m (m.pc + 1)) 0 0

-- Z and N, where bit 26 is 0: "bit 26 = 0 updates flags"
abbrev pub flagged : Core → ℕ → ℕ → ℕ → Core
flagged m bit26 z n = m but N ≔ pick (eqb bit26 0) n m.n but Z ≔ pick (eqb bit26 0) z m.z

-- the mark that an LDYX has run since reset (K4), RX and RY
abbrev pub indexed : Core → ℕ → ℕ → ℕ → Core
indexed m loaded x y = m but LOADED ≔ loaded but RX ≔ x but RY ≔ y

-- SPR7
abbrev pub multiplied : Core → ℕ → Core
multiplied m high = m but SPR7 ≔ high

-- how many addresses the return stack holds
abbrev pub deep : Core → ℕ → Core
deep m d = m but DEPTH ≔ d

-- the masks and the mode
abbrev pub masked : Core → ℕ → ℕ → ℕ → Core
masked m imask saved mode = m but IMASK ≔ imask but SAVED ≔ saved but MODE ≔ mode

-- WP
abbrev pub banked : Core → ℕ → Core
banked m w = m but WP ≔ w

-- the positions in the inputs and in the log
abbrev pub positioned : Core → ℕ → ℕ → Core
positioned m taken logged = m but TAKEN ≔ taken but LOGGED ≔ logged

-- one more input taken, one more place of the log filled
abbrev pub taking : Core → Core
taking m = positioned m (m.taken + 1) m.logged

abbrev pub logging : Core → Core
logging m = positioned m m.taken (m.logged + 1)

-- writes and changes

abbrev pub off : Option Write
off = None

abbrev pub write : ℕ → ℕ → Option Write
write i v = Some (record { at = i; value = v })

abbrev pub change : Core → Option Write → Option Write → Option Write → Option Write → Option Write → Change
change m reg dm stack logat logval =
    record { stop = 0; core = m; reg = reg; dm = dm; stack = stack; logat = logat; logval = logval }

-- "A refusal changes nothing"
abbrev pub stopped : Core → ℕ → Change
stopped m n = record { stop = n; core = m; reg = off; dm = off; stack = off; logat = off; logval = off }

abbrev pub moved : Core → Change
moved m = change m off off off off off

abbrev pub to_register : Core → ℕ → ℕ → Change
to_register m i v = change m (write i v) off off off off

abbrev pub to_memory : Core → ℕ → ℕ → Change
to_memory m i v = change m off (write i v) off off off

abbrev pub to_stack : Core → ℕ → ℕ → Change
to_stack m i v = change m off off (write i v) off off

abbrev pub to_log : Core → ℕ → ℕ → ℕ → Change
to_log m i a v = change m off off off (write i a) (write i v)
