-- RTP and RTCP on one port: where `a=rtcp-mux` is written in an offer and in its answer, and which legs it makes muxed (RFC 5761
-- section 5.1.1).
use Rattle.std.specs.Prelude.{Bool, not, ◌&&◌, ◌||◌}
use Rattle.sdp_text.specs.declared.section.Section.{Section}
use Rattle.ng_command.specs.declared.command.Options.{Options}
use Rattle.offer_answer.specs.Sections.{is_active}

-- Whether it is written to the side that answers, by the offer's options and its section: where the section is active and has it or the
-- options add it, unless they take it away.
abbrev pub mux_on : Options → Section → Bool
mux_on options offered = is_active offered && not options.mux_demux && (offered.mux || options.mux_offer)

-- the side that answers was offered it and takes it up in its section: then its leg is muxed
abbrev pub mux_taken : Options → Section → Section → Bool
mux_taken options offered answered = mux_on options offered && answered.mux

-- Whether it is written back to the side that made the offer, in a section that isn't rejected: then that side's leg is muxed. That
-- side has to have offered it, and the other one takes it up or the offer's options say that the proxy does so in its place.
abbrev pub mux_back : Options → Section → Section → Bool
mux_back options offered answered = offered.mux && (mux_taken options offered answered || options.mux_demux || options.mux_accept)
