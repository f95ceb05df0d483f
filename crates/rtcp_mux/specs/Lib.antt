pub mod PacketType
