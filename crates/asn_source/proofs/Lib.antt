mod Present
