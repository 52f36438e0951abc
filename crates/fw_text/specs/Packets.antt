-- How a packet is shown.
use Rattle.std.specs.Prelude.{ℕ, ◌++◌, List, codes, decimal}
use Rattle.primitives.specs.declared.prim.Packet.{Packet}
use Rattle.primitives.specs.Tables.{name_of, state_names}
use Rattle.primitives.specs.Words.{flags_text}
use Rattle.fw_text.specs.Names.{shown_name}

-- the shown names of the interfaces
abbrev pub names_text : Packet → List ℕ
names_text p = codes " in=" ++ shown_name p.in_name ++ codes " out=" ++ shown_name p.out_name

-- the protocol and the ports
abbrev pub numbers_text : Packet → List ℕ
numbers_text p = codes " proto=" ++ decimal p.proto ++ codes " sport=" ++ decimal p.sport ++ codes " dport=" ++ decimal p.dport

-- the flags, the name of the state and the type of a message
abbrev pub rest_text : Packet → List ℕ
rest_text p = codes " flags=" ++ flags_text p.flags ++ codes " state=" ++ name_of state_names p.state ++ codes " icmp=" ++ decimal p.icmp

-- `text_of` is the one text of an address
module _ (text_of : ℕ → List ℕ) where
  -- the source and the destination
  abbrev pub addresses_text : Packet → List ℕ
  addresses_text p = codes " src=" ++ text_of p.src ++ codes " dst=" ++ text_of p.dst

  -- the fields of a packet, each after a space
  abbrev pub packet_text : Packet → List ℕ
  packet_text p = names_text p ++ addresses_text p ++ numbers_text p ++ rest_text p
