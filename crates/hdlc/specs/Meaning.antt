-- what the values of the program mean
use Rattle.hdlc.specs.Messages.{Message, information, receive_ready}
use Rattle.hdlc.specs.Numbers.{number_of}
use Rattle.hdlc.specs.declared.frame.Frame.{Frame}
use Rattle.hdlc.specs.declared.frame.Frame.TheVariants.{Information, ReceiveReady}

abbrev pub message_of : Frame → Message
message_of (Information n info) = information (number_of n) info.now
message_of (ReceiveReady n) = receive_ready (number_of n)
