-- What a part of a word may hold, with its range, and the options a row may need, each with its test: document 01's refusals 7 and 6.
use Rattle.std.specs.Prelude.{ℕ, ◌/◌, Bool, true, false, eqb}
use Rattle.laws.specs.Choice.{decided}
use Rattle.laws.specs.Test.{Test, less, same, yes?, if?, ◌and◌}
use Rattle.words.specs.declared.Config.{Config}

-- what a part holds
pub data Part : Type 0 where
  unused : Part  -- nothing: the part is zero
  flag : Part  -- bit 26 of an ALU word
  byte : Part  -- byte number
  coprocessor : Part  -- COP's bits 27-23
  register : Part  -- register, or LDYX's index
  unit : Part  -- JSRWP's WP/16
  mask : Part  -- interrupt mask
  immediate : Part  -- 16-bit immediate
  read_address : Part  -- direct data address that is read
  write_address : Part  -- direct data address that is written
  target : Part  -- target of JMP or JSR
  count : Part  -- shift count
  bank_address : Part  -- JSRWP address
  short : Part  -- 8-bit immediate
  deriving Discrete as Part-discrete

abbrev pub is : Part → Part → Bool
is p q = decided (Part-discrete p q)

-- "register ≥ REG_SIZE, direct data address ≥ DM_SIZE, immediate shift count out of range, byte number with 8N+7 ≥ W, WP unit above 63, an unused bit or
-- part not zero, or a value to be written too wide for its field" (7); K2: "A direct JMP or JSR target at or above IM_SIZE is to be refused when the word is
-- read or written, and so is a JSRWP address."
unfoldable pub in_range : Config → Part → ℕ → Test
in_range c unused v = same v 0
in_range c flag v = less v 2
in_range c byte v = less v (c.regwidth / 8)
in_range c coprocessor v = less v 32
in_range c register v = less v c.regsize
in_range c unit v = less v 64
in_range c mask v = less v 16
in_range c immediate v = less v 65536
in_range c read_address v = less v c.dmsize
in_range c write_address v = less v c.dmsize
in_range c target v = less v c.imsize
in_range c count v = less v 16 and if? (eqb c.alulevel 0) (same v 1)  -- "immediate, 0 to 15, at level 0 only 1"
in_range c bank_address v = less v c.imsize
in_range c short v = less v 256

-- the option that a row needs
pub data Option : Type 0 where
  always : Option
  mult : Option
  level1 : Option
  level2 : Option
  level2_memory : Option
  memory : Option
  ports : Option
  rmw : Option
  banks : Option
  spr : Option
  never : Option  -- unsupported
  deriving Discrete as Option-discrete

abbrev pub needs : Option → Option → Bool
needs o q = decided (Option-discrete o q)

-- "row needs an option that is off" (6)
unfoldable pub available : Config → Option → Test
available c always = yes? true
available c mult = same c.alumult 1
available c level1 = less 0 c.alulevel
available c level2 = less 1 c.alulevel
available c level2_memory = less 1 c.alulevel and less 0 c.dmsize
available c memory = less 0 c.dmsize
available c ports = same c.iopif 1
available c rmw = same c.ioprmw 1
available c banks = less c.regsize c.rmsize
available c spr = same c.aluspr 1
available c never = yes? false
