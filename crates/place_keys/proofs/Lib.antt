mod TextWords
